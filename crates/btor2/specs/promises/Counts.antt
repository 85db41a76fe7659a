-- "or in 4 nodes (not, not, and, not), sub in 3 (not, add, not), neq and uext in 2, each negative reference in one not more; uext and sext by
-- 0 add none, nor does a constraint beyond that not; other node lines one."
use Rattle.std.specs.Prelude.{◌≡◌, refl, Bool, true, false, cond, List, [], ◌∷◌, ℕ, ◌+◌, eqb, length}
use Rattle.std.proofs.Common.{◌∙◌, arith, length-append}
use Rattle.lines.specs.Words.{Word, sort, input, zeros, one, ones, const, constd, consth, inv, conj, disj, xor, add, sub, mul, sll, srl, sra, eq, neq, ult, slt, ite, concat, slice, uext, sext, constraint, other}
use Rattle.lines.specs.Format.{Ref, Item}
use Rattle.spelling.specs.Nodes.{invert, nots}
use Rattle.btor2.specs.Conversion.{State, at, width_in, operand_of, operands, new_nodes}
use Rattle.spelling.specs.inner.Spelled.{form_of, own_count}
use Rattle.btor2.specs.laws.Alias.{own_count_lem}

-- how many nodes a keyword's line makes beside the nots of its references, where its number is p
unfoldable pub nodes_of : Word → ℕ → ℕ
nodes_of sort p = 0
nodes_of input p = 1
nodes_of zeros p = 1
nodes_of one p = 1
nodes_of ones p = 1
nodes_of const p = 1
nodes_of constd p = 1
nodes_of consth p = 1
nodes_of inv p = 1
nodes_of conj p = 1
nodes_of disj p = 4
nodes_of xor p = 1
nodes_of add p = 1
nodes_of sub p = 3
nodes_of mul p = 1
nodes_of sll p = 1
nodes_of srl p = 1
nodes_of sra p = 1
nodes_of eq p = 1
nodes_of neq p = 2
nodes_of ult p = 1
nodes_of slt p = 1
nodes_of ite p = 1
nodes_of concat p = 1
nodes_of slice p = 1
nodes_of uext p = cond (eqb p 0) 0 2
nodes_of sext p = cond (eqb p 0) 0 1
nodes_of constraint p = 0
nodes_of other p = 0

-- how many references are negative
unfoldable pub negatives : List Ref → ℕ
negatives [] = 0
negatives (r ∷ rs) = cond r.negative 1 0 + negatives rs

count_nots : (σ : State) (rs : List Ref) → length (nots (operands σ rs)) ≡ negatives rs
unfolding nots operands operand_of negatives
count_nots σ [] = refl
count_nots σ (r ∷ rs) = by r.negative (count_nots σ rs)
  where
    by : (b : Bool) → length (nots (operands σ rs)) ≡ negatives rs
        → length (cond b (invert (width_in σ.nodes (at r.line σ.named)) (at r.line σ.named) ∷ nots (operands σ rs)) (nots (operands σ rs)))
        ≡ cond b 1 0 + negatives rs
    by true h = omega arith
    by false h = omega arith

count_own : (k : Word) (p : ℕ) → own_count (form_of k) p ≡ nodes_of k p
unfolding own_count form_of nodes_of
count_own sort p = refl
count_own input p = refl
count_own zeros p = refl
count_own one p = refl
count_own ones p = refl
count_own const p = refl
count_own constd p = refl
count_own consth p = refl
count_own inv p = refl
count_own conj p = refl
count_own disj p = refl
count_own xor p = refl
count_own add p = refl
count_own sub p = refl
count_own mul p = refl
count_own sll p = refl
count_own srl p = refl
count_own sra p = refl
count_own eq p = refl
count_own neq p = refl
count_own ult p = refl
count_own slt p = refl
count_own ite p = refl
count_own concat p = refl
count_own slice p = refl
count_own uext p = refl
count_own sext p = refl
count_own constraint p = refl
count_own other p = refl

pub nodes_counted : (σ : State) (i : Item) → length (new_nodes σ i) ≡ negatives i.refs + nodes_of i.word i.first
unfolding new_nodes
nodes_counted σ i =
    length-append (nots (operands σ i.refs)) _
    ∙ rw (count_nots σ i.refs, own_count_lem i.word, count_own i.word i.first)
