-- Laws of the table of kinds: its rows as a list, and the width rule as a test and as a fact.
use Rattle.std.specs.Prelude.{◌≡◌, ℕ, zero, suc, ◌+◌, ◌<◌, ◌≤◌, Bool, true, false, ◌&&◌, ◌||◌, T, List, [], ◌∷◌, length, ◌==◌, nat_eq, nat_le, nat_lt, slice_index_or, refl}
use Rattle.std.proofs.Common.{sym, ap, not-suc-le-zero, le_of_suc-le-suc, not-le_of_lt, eqb→eq, ltb→lt, eqb-true, leb-true, ltb-true, eq-eqb, le-leb, lt-ltb}
use Rattle.std.proofs.lemmas.Bool.{false≢true}
use Rattle.std.proofs.Math.ListN.{get_or-eq_default}
use mir.Val.{has_key}
use types.Run.{OneOf, hit}
use Rattle.words.specs.laws.Cases.{every, every_at}
use Rattle.operators.specs.declared.table.Rule.{Rule}
use Rattle.operators.specs.declared.table.Rule.TheVariants.{Free, One, Both, Equal, Choice, Sum, Part, Longer, Narrow}
use Rattle.operators.specs.declared.table.Shape.{Shape}
use Rattle.operators.specs.Table.{Kind, variable, kinds, kind_count, shape, shape_of, RuleMet, rule_holds}

-- the rows of some kinds
abbrev pub rows : List Kind → List Shape
rows [] = []
rows (o ∷ os) = shape o ∷ rows os

row_of : (d : Shape) (os : List Kind) (k : ℕ) → k < length os → slice_index_or (rows os) k d ≡ shape (slice_index_or os k variable)
row_of d [] k h = absurd (not-suc-le-zero h)
row_of d (o ∷ os) zero h = refl
row_of d (o ∷ os) (suc k) h = row_of d os k (le_of_suc-le-suc h)

pub row_is : (d : Shape) (k : ℕ) → k < kind_count → slice_index_or (rows kinds) k d ≡ shape_of k
row_is d k h = row_of d kinds k h

pub row_none : (k : ℕ) → kind_count ≤ k → shape variable ≡ shape_of k
row_none k h = ap shape (sym (get_or-eq_default kinds variable h))

pub or_right : (a b : Bool) → T (a || b) → (T a → ⊥) → T b
or_right true b h f = absurd (f tt)
or_right false b h f = h

-- n is none of the keys of some arms, the last arm first, as a match tells it to its ranges and its last arm
abbrev pub Without : List (List ℕ) → ℕ → Type 0
Without [] n = Unit {0}
Without (ks ∷ arms) n = Without arms n × (OneOf ks n → ⊥)

abbrev pub keyed : List (List ℕ) → ℕ → Bool
keyed [] n = false
keyed (ks ∷ arms) n = has_key ks n || keyed arms n

-- the k numbers from m on, each an arm
abbrev pub singles : ℕ → ℕ → List (List ℕ)
singles m zero = []
singles m (suc k) = ((m + k) ∷ []) ∷ singles m k

not_keyed : (arms : List (List ℕ)) (n : ℕ) → Without arms n → T (keyed arms n) → ⊥
not_keyed [] n w h = h
not_keyed (ks ∷ arms) n w h = not_keyed arms n w.0 (or_right (has_key ks n) (keyed arms n) h (λ k. w.1 (hit ks n k)))

-- what is left of the numbers from lo up to hi has the property that one computed test finds of each without an arm
pub left_over : (lo hi : ℕ) (arms : List (List ℕ)) (Q : ℕ → Bool) → T (every hi (λ x. nat_lt x lo || (keyed arms x || Q x)))
    → (n : ℕ) → lo ≤ n → n < hi → Without arms n → T (Q n)
left_over lo hi arms Q h n l u w =
    or_right (keyed arms n) (Q n)
    (or_right (nat_lt n lo) (keyed arms n || Q n) (every_at hi (λ x. nat_lt x lo || (keyed arms x || Q x)) h n u) (λ k. not-le_of_lt (ltb→lt n lo k) l))
    (not_keyed arms n w)

-- so many operands
pub counted : (lo hi n : ℕ) (arms : List (List ℕ)) → T (every hi (λ x. nat_lt x lo || (keyed arms x || n == (shape_of x).operands)))
    → (k : ℕ) → lo ≤ k → k < hi → Without arms k → n ≡ (shape_of k).operands
counted lo hi n arms t k l u w = eqb→eq n (shape_of k).operands (left_over lo hi arms (λ x. nat_eq n (shape_of x).operands) t k l u w)

-- what holds of each kind of a list and its number
abbrev pub AllFrom : (ℕ → Kind → Type 0) → List Kind → Type 0
AllFrom P [] = Unit {0}
AllFrom P (o ∷ os) = P zero o × AllFrom (λ n. P (suc n)) os

pub each : (P : ℕ → Kind → Type 0) (os : List Kind) → AllFrom P os → (n : ℕ) → n < length os → P n (slice_index_or os n variable)
each P [] h n l = absurd (not-suc-le-zero l)
each P (o ∷ os) h zero l = h.0
each P (o ∷ os) h (suc n) l = each (λ n. P (suc n)) os h.1 n (le_of_suc-le-suc l)

both_left : (a b : Bool) → (a && b) ≡ true → a ≡ true
both_left true b h = refl
both_left false b h = h

both_right : (a b : Bool) → (a && b) ≡ true → b ≡ true
both_right true b h = h
both_right false b h = absurd (false≢true h)

both_of : {a b : Bool} → a ≡ true → b ≡ true → (a && b) ≡ true
both_of p q = rw (p, q)

-- the test says what the fact says
pub rule_met : (r : Rule) (w wa wb wc b : ℕ) → rule_holds r w wa wb wc b ≡ true → RuleMet r w wa wb wc b
unfolding rule_holds
rule_met Free w wa wb wc b h = tt
rule_met One w wa wb wc b h = eqb-true _ _ h
rule_met Both w wa wb wc b h = (eqb-true _ _ (both_left (wa == w) (wb == w) h), eqb-true _ _ (both_right (wa == w) (wb == w) h))
rule_met Equal w wa wb wc b h = (eqb-true _ _ (both_left (wa == wb) (w == 1) h), eqb-true _ _ (both_right (wa == wb) (w == 1) h))
rule_met Choice w wa wb wc b h =
    let l = both_left (wa == 1 && wb == w) (wc == w) h in (
      eqb-true _ _ (both_left (wa == 1) (wb == w) l),
      eqb-true _ _ (both_right (wa == 1) (wb == w) l),
      eqb-true _ _ (both_right (wa == 1 && wb == w) (wc == w) h),
    )
rule_met Sum w wa wb wc b h = eqb-true _ _ h
rule_met Part w wa wb wc b h = leb-true _ _ h
rule_met Longer w wa wb wc b h = ltb-true _ _ h
rule_met Narrow w wa wb wc b h =
    let l = both_left (wa == w && wb == w) (nat_le w 16) h in (
      eqb-true _ _ (both_left (wa == w) (wb == w) l),
      eqb-true _ _ (both_right (wa == w) (wb == w) l),
      leb-true _ _ (both_right (wa == w && wb == w) (nat_le w 16) h),
    )

pub rule_tested : (r : Rule) (w wa wb wc b : ℕ) → RuleMet r w wa wb wc b → rule_holds r w wa wb wc b ≡ true
unfolding rule_holds
rule_tested Free w wa wb wc b h = refl
rule_tested One w wa wb wc b h = eq-eqb _ _ h
rule_tested Both w wa wb wc b h = both_of (eq-eqb _ _ h.0) (eq-eqb _ _ h.1)
rule_tested Equal w wa wb wc b h = both_of (eq-eqb _ _ h.0) (eq-eqb _ _ h.1)
rule_tested Choice w wa wb wc b h = both_of (both_of (eq-eqb _ _ h.0) (eq-eqb _ _ h.1)) (eq-eqb _ _ h.2)
rule_tested Sum w wa wb wc b h = eq-eqb _ _ h
rule_tested Part w wa wb wc b h = le-leb _ _ h
rule_tested Longer w wa wb wc b h = lt-ltb _ _ h
rule_tested Narrow w wa wb wc b h = both_of (both_of (eq-eqb _ _ h.0) (eq-eqb _ _ h.1)) (le-leb _ _ h.2)

-- the rules by which both operands have the node's width
abbrev pub evenly : Rule → Bool
evenly Free = false
evenly One = false
evenly Both = true
evenly Equal = false
evenly Choice = false
evenly Sum = false
evenly Part = false
evenly Longer = false
evenly Narrow = true

pub even_widths : (r : Rule) (w wa wb wc b : ℕ) → evenly r ≡ true → RuleMet r w wa wb wc b → (wa ≡ w) × (wb ≡ w)
even_widths Free w wa wb wc b e m = absurd (false≢true e)
even_widths One w wa wb wc b e m = absurd (false≢true e)
even_widths Both w wa wb wc b e m = m
even_widths Equal w wa wb wc b e m = absurd (false≢true e)
even_widths Choice w wa wb wc b e m = absurd (false≢true e)
even_widths Sum w wa wb wc b e m = absurd (false≢true e)
even_widths Part w wa wb wc b e m = absurd (false≢true e)
even_widths Longer w wa wb wc b e m = absurd (false≢true e)
even_widths Narrow w wa wb wc b e m = (m.0, m.1)
