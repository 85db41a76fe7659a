-- How a call ends: refused, with nothing written; or with the file and the map written.
use mathlib.Core.Path.{◌≡◌, refl, sym, ap, ◌∙◌}
use mathlib.Core.List.{List, ◌∷◌, ◌++◌}
use native.Mathlib.Nat.{not-suc-le-zero, le_of_suc-le-suc}
use Prim.Native.Nat.{ℕ, zero, suc, ◌≤◌}
use native.Mathlib.Omega.{arith}
use lib.ListN.{length, take, drop, replicate, length-append, length-replicate}
use lib.Seq.{length-take-le}
use Rattle.problem.specs.declared.Refusal.{Refusal}
use Rattle.problem.specs.Layout.{node_count}
use Rattle.problem.specs.Refusals.{Checked, Accepted}
use Rattle.problem.specs.laws.First.{then_accepted, then_refused}
use Rattle.problem.specs.inner.Facts.{HeaderFacts}
use Rattle.mending.specs.Order.{none}
use Rattle.mending.specs.laws.Order.{length_numbers}
use Rattle.mending.specs.Mended.{mended, old_ids}
use Rattle.mending.specs.inner.Laid.{laid}
use Rattle.mending.specs.Refusals.{fault_before, fault_after, mend_fault, Mends}
use Rattle.mending.specs.laws.Laid.{laid_front}
use Rattle.mending.specs.laws.Mended.{length_mended}
use Rattle.mending.specs.laws.Accepted.{written}
use Rattle.mending.specs.inner.Mending.{blank, Blank, Fresh, Finishes, Placed}
use Rattle.mending.proofs.Turns.{ids_length}
use Rattle.std.specs.Prelude.{Err as Refused}

pub finish_refused :
    (s out map : List ℕ) (f : Checked) (r : Refusal)
    → f ≡ fault_after s (length out) (length map)
    → f ≡ Refused r
    → Finishes s out map out map f
finish_refused s out map f r e h = rw h (Finishes.refuses r (sym e ∙ h))

pub finish_written :
    (s olds out map out' map' : List ℕ)
    → HeaderFacts s
    → olds ≡ old_ids s
    → fault_after s (length out) (length map) ≡ Accepted
    → out' ≡ laid out 0 (mended s)
    → map' ≡ laid map 0 olds
    → Finishes s out map out' map' Accepted
finish_written s olds out map out' map' H o a e f =
    let w = written s (length out) (length map) a in
    let p : out' ≡ mended s ++ drop (length s) out = e ∙ laid_front out (mended s) (length s) (length_mended s H H.nodes w.all) w.enough in
    let q : map' ≡ old_ids s ++ drop (node_count s) map =
    f ∙ laid_front map olds (node_count s) (ids_length s olds o) w.lines ∙ ap (λ (x : List ℕ). x ++ drop (node_count s) map) o in
    rw (p, q) (Finishes.mends a)

-- ---- the whole call

pub mend_refused :
    (s out map : List ℕ) (f : Checked) (r : Refusal) → f ≡ fault_before s → f ≡ Refused r → Mends s out map out map f
unfolding mend_fault
mend_refused s out map f r e h = rw h (Mends.refuses r (then_refused (fault_before s) _ r (sym e ∙ h)))

pub mend_finished :
    (s out map : List ℕ) {out' map' : List ℕ} {f : Checked} → fault_before s ≡ Accepted → Finishes s out map out' map' f → Mends s out map out' map' f
unfolding mend_fault
mend_finished s out map a (Finishes.refuses r e) = Mends.refuses r (then_accepted (fault_before s) _ a ∙ e)
mend_finished s out map a (Finishes.mends e) = Mends.mends (then_accepted (fault_before s) _ a ∙ e)

-- ---- 1,024 places, of which the first n are lent

take_blank : (n m : ℕ) → n ≤ m → take n (replicate m none) ≡ replicate n none
take_blank zero m h = refl
take_blank (suc n) zero h = absurd (not-suc-le-zero h)
take_blank (suc n) (suc m) h = ap {B = List ℕ} (λ l. none ∷ l) (take_blank n m (le_of_suc-le-suc h))

pub blank_length : (news : List ℕ) → news ≡ blank → length news ≡ 1024
unfolding blank
blank_length news e = ap length e ∙ length-replicate 1024 none

pub fresh : (s news olds : List ℕ) (n : ℕ) → Blank s news olds → n ≡ node_count s → Fresh s (take n news) (take n olds)
unfolding blank
fresh s news olds n b e =
    let h : n ≤ 1024 = rw e b.header.nodes in
    record {
      header = b.header;
      inside = b.inside;
      unplaced = ap (take n) b.unplaced ∙ take_blank n 1024 h ∙ ap (λ (m : ℕ). replicate m none) e;
      places = length-take-le n olds (let l = b.places in omega arith) ∙ e;
    }

pub few_places : (s news olds : List ℕ) (n : ℕ) → Blank s news olds → n ≡ node_count s → (n ≤ length news) × (n ≤ length olds)
few_places s news olds n b e =
    let h : n ≤ 1024 = rw e b.header.nodes in
    (omega (arith, blank_length news b.unplaced), omega (arith, b.places))

-- the first places read back
module _ (a c : List ℕ) (n : ℕ) (e : length a ≡ n) where
  pub front_room : n ≤ length (a ++ c)
  front_room = omega (arith, length-append a c)

  pub front_length : n ≡ length (take n (a ++ c))
  front_length = sym (length-take-le n (a ++ c) front_room)

module _ (s news olds : List ℕ) (n : ℕ) (e : n ≡ node_count s) (p : Placed s news olds) where
  pub news_length : length news ≡ n
  news_length = ap length p.news_are ∙ length_numbers s (node_count s) ∙ sym e
