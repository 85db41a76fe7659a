-- What code keeps while it folds over the lines, tied to the definition's state: counts, the bytes of the nodes so far, the ids of lines that
-- made nodes with their nodes beside them, and the roots. Sorts and other names are in the text already read.
use Rattle.std.specs.Prelude.{◌≡◌, true, cond, not, List, ℕ, ◌+◌, ◌*◌, ◌^◌, ◌≤◌, ◌<◌, eqb, length, get_or, set, Option, Some, None}
use Rattle.texts.specs.Numbers.{value_in}
use Rattle.spelling.specs.declared.line.Operand.{Operand}
use Rattle.lines.specs.Lines.{Token, token, tokens}
use Rattle.lines.specs.Format.{Ref}
use Rattle.btor2.specs.Conversion.{State, known, at, width_in, operand_of}
use Rattle.lines.specs.inner.Told.{id_of, find_line, small, width_told, is_alias}

-- ---- ids that increase

pub record Rising (ids : List ℕ) (names : ℕ) : Type 0 where
  pub inside : names ≤ length ids
  pub rises : (i j : ℕ) → i < j → j < names → get_or ids i 0 < get_or ids j 0

-- the first place, of so many, that is not below an id
pub record Lower (ids : List ℕ) (names id r : ℕ) : Type 0 where
  pub most : r ≤ names
  pub under : (k : ℕ) → k < r → get_or ids k 0 < id
  pub over : (k : ℕ) → r ≤ k → k < names → id ≤ get_or ids k 0

-- the node beside an id
pub data Beside (ids places : List ℕ) (names id : ℕ) : Option ℕ → Type 0 where
  there : (k : ℕ) → k < names → get_or ids k 0 ≡ id → Beside ids places names id (Some (get_or places k 0))
  nowhere : ((k : ℕ) → k < names → get_or ids k 0 ≡ id → ⊥) → Beside ids places names id None

-- ---- what ids stand for

-- an id is another name of what a lower one names
pub record Also (σ : State) (id other : ℕ) : Type 0 where
  pub told : known id σ.named ≡ true
  pub known_too : known other σ.named ≡ true
  pub same : at id σ.named ≡ at other σ.named
  pub below : other < id

-- after the lines ls: the ids of lines that made nodes are kept, and the others are told by the text
pub record Named (σ : State) (ls : List (List ℕ)) (names : ℕ) (ids places : List ℕ) : Type 0 where
  pub direct : (k : ℕ) → k < names → known (get_or ids k 0) σ.named ≡ true
  pub standing : (k : ℕ) → k < names → at (get_or ids k 0) σ.named ≡ get_or places k 0
  pub others :
      (id : ℕ)
      → known id σ.named ≡ true
      → ((k : ℕ) → k < names → get_or ids k 0 ≡ id → ⊥)
      → is_alias (tokens (find_line id ls)) ≡ true
  pub aliases :
      (id : ℕ) → 0 < id → is_alias (tokens (find_line id ls)) ≡ true → Also σ id (value_in 10 (token (tokens (find_line id ls)) 3))
  pub some : (id : ℕ) → known id σ.named ≡ true → 0 < id
  pub most : (id : ℕ) → known id σ.named ≡ true → id < 2 ^ 64
  pub inside : (id : ℕ) → known id σ.named ≡ true → at id σ.named < length σ.nodes
  pub few : length σ.nodes ≤ 1024

-- the sorts are told by the text
pub record Sorted (σ : State) (ls : List (List ℕ)) : Type 0 where
  pub told : (id : ℕ) → 0 < id → at id σ.sorts ≡ width_told (tokens (find_line id ls))
  pub none : at 0 σ.sorts ≡ 0
  pub wide : (id : ℕ) → 2 ^ 64 ≤ id → at id σ.sorts ≡ 0
  pub most : (id : ℕ) → at id σ.sorts ≤ 64
  pub defined : (id : ℕ) → known id σ.sorts ≡ not (eqb (at id σ.sorts) 0)

-- what a reader of lines relies on
pub record Seen (σ : State) (ls : List (List ℕ)) (names : ℕ) (bytes ids places : List ℕ) : Type 0 where
  pub named : Named σ ls names ids places
  pub sorted : Sorted σ ls
  pub widths : (k : ℕ) → k < length σ.nodes → get_or bytes (24 * k + 1) 0 ≡ width_in σ.nodes k

-- the node that an id names, and the operand that a reference names, with node 1024 where there is none
unfoldable pub node_named : State → ℕ → Option ℕ
node_named σ id = cond (known id σ.named) (Some (at id σ.named)) None

unfoldable pub looked_up : State → Ref → Operand
looked_up σ r = cond (known r.line σ.named) (operand_of σ r) (record { negative = r.negative; node = 1024; width = 0 })

-- ---- sorts that are kept

-- the ids and widths of so many sorts
pub record SortsKept (σ : State) (sorts : ℕ) (ids widths : List ℕ) : Type 0 where
  pub right : (k : ℕ) → k < sorts → at (get_or ids k 0) σ.sorts ≡ get_or widths k 0
  pub some : (k : ℕ) → k < sorts → 0 < get_or widths k 0

-- the width beside an id, 0 where the id is not there
pub data WidthKept (ids widths : List ℕ) (sorts id : ℕ) : ℕ → Type 0 where
  there : (k : ℕ) → k < sorts → get_or ids k 0 ≡ id → WidthKept ids widths sorts id (get_or widths k 0)
  nowhere : WidthKept ids widths sorts id 0

-- a line that has passed: where it is a sort's it may be kept, at the end
pub data SortNoted (ts : List Token) (sorts : ℕ) (ids widths : List ℕ) : List ℕ → List ℕ → ℕ → Type 0 where
  same : SortNoted ts sorts ids widths ids widths sorts
  noted :
      0 < width_told ts
      → sorts < length ids
      → sorts < length widths
      → SortNoted ts sorts ids widths (set ids sorts (small (id_of ts))) (set widths sorts (width_told ts)) (sorts + 1)
