-- What the proofs know of nodes' values: what each kind gives, and lists of values that are evaluated.
use Rattle.std.specs.Prelude.{◌≡◌, cond, List, [], ◌∷◌, ℕ, ◌+◌, ◌-◌, ◌/◌, ◌^◌, ◌≤◌, ◌<◌, ltb, length, get_or, drop}
use Rattle.operators.specs.Meaning.{meaning, flag}
use Rattle.operators.specs.Table.{kind_of}
use Rattle.nodes.specs.Problem.{by_kind}
use Rattle.problem.specs.declared.layout.Node.{Node}
use Rattle.spelling.specs.Nodes.{invert}
use Rattle.btor2.specs.Conversion.{width_in}
use Rattle.btor2.specs.Meaning.{is_minus, moved, flipped}

-- what a kind gives at a width w, its operands' widths wa and wb, its field b and its operands' values x, y, z
abbrev pub Gives : Type 0
Gives = ℕ → ℕ → ℕ → ℕ → ℕ → ℕ → ℕ → ℕ → ℕ

-- the kinds that the converter writes, of operands that fit their widths: 0 to 13 as they are, and 14 to 16 as the format's page has them
pub record Kinds (gives : Gives) : Type 0 where
  pub known : (k w wa wb low x y z : ℕ) → k < 14 → gives k w wa wb low x y z ≡ meaning (kind_of k) w wa wb low x y z
  pub signed_below :
      (w wa wb low x y z : ℕ) → 1 ≤ wa → x < 2 ^ wa → y < 2 ^ wa → gives 14 w wa wb low x y z ≡ flag (ltb (moved wa x) (moved wa y))
  pub arithmetic_right :
      (w wa wb low x y z : ℕ)
      → 1 ≤ w
      → x < 2 ^ w
      → gives 15 w wa wb low x y z
      ≡ cond (is_minus w x) (flipped w (flipped w x / 2 ^ y)) (x / 2 ^ y)
  pub sign_extension :
      (w wa wb low x y z : ℕ) → 1 ≤ wa → wa < w → x < 2 ^ wa → gives 16 w wa wb low x y z ≡ cond (is_minus wa x) (x + (2 ^ w - 2 ^ wa)) x

-- the value of a node under the values vs of all: a variable's own, a constant's lo, else what the kind gives
unfoldable pub node_value : Gives → List Node → List ℕ → Node → ℕ → ℕ
node_value gives ns vs n own =
    by_kind n.kind own n.lo
    (gives n.kind n.width (width_in ns n.a) (width_in ns n.b) n.b (get_or vs n.a 0) (get_or vs n.b 0) (get_or vs n.c 0))

unfoldable pub Evaluated : Gives → List Node → List ℕ → Type 0
Evaluated gives ns vs = (k : ℕ) → k < length ns → get_or vs k 0 ≡ node_value gives ns vs (get_or ns k (invert 0 0)) (get_or vs k 0)

-- every variable's value has its width
unfoldable pub Fitting : List ℕ → List ℕ → Type 0
Fitting [] xs = Unit {0}
Fitting (w ∷ ws) xs = (get_or xs 0 0 < 2 ^ w) × Fitting ws (drop 1 xs)
