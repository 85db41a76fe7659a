-- A problem of three variables and a node, as bytes, and what is read back of it: the witness that a node can be had.
use Rattle.std.specs.Prelude.{◌≡◌, Bool, true, ◌&&◌, List, [], ◌∷◌, ◌++◌, ℕ, zero, suc, ◌/◌, ◌%◌, ◌^◌, ◌<◌, T, ltb, get_or}
use Rattle.std.proofs.Math.Path.{refl}
use Rattle.std.proofs.Common.{arith, ltb→lt}
use Rattle.std.specs.Float.Ieee.Fits.{and_l, and_r}
use Rattle.problem.specs.declared.layout.Node.{Node}
use Rattle.problem.specs.Layout.{le16, le32, le64, node_count, root_count, node_of, node_at}
use Rattle.problem.specs.inner.Facts.{HeaderFacts}

-- a number in so many bytes, the lowest first
unfoldable pub little_endian : ℕ → ℕ → List ℕ
little_endian zero x = []
little_endian (suc n) x = x % 256 ∷ little_endian n (x / 256)

-- a node's 24 bytes
unfoldable pub part : Node → List ℕ
part n =
    n.kind
    ∷ n.width
    ∷ little_endian 2 n.a
    ++ little_endian 2 n.b
    ++ little_endian 2 n.c
    ++ little_endian 8 n.lo
    ++ little_endian 8 n.hi

-- numbers that have room in a node's bytes
pub record Fields (n : Node) : Type 0 where
  pub kind : n.kind < 256
  pub width : n.width < 256
  pub a : n.a < 65536
  pub b : n.b < 65536
  pub c : n.c < 65536
  pub lo : n.lo < 2 ^ 64
  pub hi : n.hi < 2 ^ 64

two_bytes : (x : ℕ) → x < 65536 → le16 (little_endian 2 x) 0 ≡ x
unfolding little_endian le16
two_bytes x h = omega arith

eight_bytes : (x : ℕ) → x < 2 ^ 64 → le64 (little_endian 8 x) 0 ≡ x
unfolding little_endian le16 le32 le64
eight_bytes x h = omega arith

read_part : (n : Node) → Fields n → node_of (part n) ≡ n
unfolding node_of part little_endian le16 le32 le64
read_part n f =
    rw (two_bytes n.a f.a, two_bytes n.b f.b, two_bytes n.c f.c, eight_bytes n.lo f.lo, eight_bytes n.hi f.hi)

-- ---- bytes are below 256

pub data Small : List ℕ → Type 0 where
  none : Small []
  more : {x : ℕ} {xs : List ℕ} → x < 256 → Small xs → Small (x ∷ xs)

abbrev all_below : List ℕ → Bool
all_below [] = true
all_below (x ∷ xs) = ltb x 256 && all_below xs

small_at : {xs : List ℕ} → Small xs → (k : ℕ) → get_or xs k 0 < 256
small_at none k = omega arith
small_at (more h s) zero = h
small_at (more h s) (suc k) = small_at s k

small_append : {xs ys : List ℕ} → Small xs → Small ys → Small (xs ++ ys)
small_append none t = t
small_append (more h s) t = more h (small_append s t)

small_all : (xs : List ℕ) → T (all_below xs) → Small xs
small_all [] t = none
small_all (x ∷ xs) t = more (ltb→lt x 256 (and_l (ltb x 256) (all_below xs) t)) (small_all xs (and_r (ltb x 256) (all_below xs) t))

small_number : (n x : ℕ) → Small (little_endian n x)
unfolding little_endian
small_number zero x = none
small_number (suc n) x = more {x = x % 256} (omega arith) (small_number n (x / 256))

small_part : (n : Node) → Fields n → Small (part n)
unfolding part
small_part n f =
    more f.kind
    (more f.width
    (small_append
    (small_append (small_append (small_append (small_number 2 n.a) (small_number 2 n.b)) (small_number 2 n.c)) (small_number 8 n.lo))
    (small_number 8 n.hi)))

-- the mark, version 1, 4 nodes, no roots
abbrev pub head : List ℕ
head = 84 ∷ 66 ∷ 86 ∷ 1 ∷ 0 ∷ 4 ∷ 0 ∷ 0 ∷ 0 ∷ []

small_head : Small head
small_head = small_all head tt

-- the problem
unfoldable pub four : Node → Node → Node → Node → List ℕ
four p q r n = head ++ part p ++ part q ++ part r ++ part n

module _ (p q r n : Node) where
  pub four_counts : (node_count (four p q r n) ≡ 4) × (root_count (four p q r n) ≡ 0)
  unfolding four le16
  four_counts = (refl, refl)

  pub four_header : HeaderFacts (four p q r n)
  unfolding four part little_endian le16
  four_header = record { long = omega arith; mark_t = refl; mark_b = refl; mark_v = refl; version_one = refl; nodes = omega arith; roots = omega arith; whole = refl }

  pub four_first : Fields p → node_at (four p q r n) 0 ≡ p
  unfolding four node_at part little_endian
  four_first f = read_part p f

  pub four_second : Fields q → node_at (four p q r n) 1 ≡ q
  unfolding four node_at part little_endian
  four_second f = read_part q f

  pub four_third : Fields r → node_at (four p q r n) 2 ≡ r
  unfolding four node_at part little_endian
  four_third f = read_part r f

  pub four_last : Fields n → node_at (four p q r n) 3 ≡ n
  unfolding four node_at part little_endian
  four_last f = read_part n f

  pub four_small : Fields p → Fields q → Fields r → Fields n → (k : ℕ) → get_or (four p q r n) k 0 < 256
  unfolding four
  four_small f g h i =
      small_at (small_append (small_append (small_append (small_append small_head (small_part p f)) (small_part q g)) (small_part r h)) (small_part n i))
