-- Laws of lists of members: a set has one list, and one count; how a count goes on; the least member; and the list made from its end.
use Rattle.std.specs.Prelude.{◌≡◌, refl, List, [], ◌∷◌, ◌++◌, ℕ, ◌+◌, ◌≤◌, ◌<◌, length, get_or}
use Rattle.std.proofs.Common.{sym, ap, ◌∙◌, subst, append-nil, append_assoc, arith, not-suc-le-zero, add-one, length-append}
use Rattle.std.proofs.Math.Decide.{ℕ_discrete}
use Rattle.evaluation.specs.Lists.{Lists, Lists.done, Lists.keep, Lists.skip}
use Rattle.evaluation.specs.inner.Lists.{Count, ListsFrom, ListsFrom.none, ListsFrom.keep as keep_from, ListsFrom.skip as skip_from}
use Rattle.evaluation.specs.laws.Decide.{lists_find, lists_member}

pub lists_unique : {A : ℕ → Type 0} {n : ℕ} {l l' : List ℕ} → Lists A n l → Lists A n l' → l ≡ l'
lists_unique done done = refl
lists_unique (keep r a) (keep r' a') = rw (lists_unique r r')
lists_unique (keep r a) (skip r' b') = absurd (b' a)
lists_unique (skip r b) (keep r' a') = absurd (b a')
lists_unique (skip r b) (skip r' b') = lists_unique r r'

-- the first of the list is the least member
first_append :
    (l : List ℕ) (n k : ℕ) → (0 < length l → get_or l 0 0 ≤ k) → (length l ≡ 0 → n ≤ k) → get_or (l ++ (n ∷ [])) 0 0 ≤ k
first_append [] n k p q = q refl
first_append (i ∷ l) n k p q = p (omega arith)

pub lists_least : {A : ℕ → Type 0} {n : ℕ} {l : List ℕ} → Lists A n l → (k : ℕ) → k < n → A k → get_or l 0 0 ≤ k
lists_least done k h a = absurd (not-suc-le-zero h)
lists_least (keep {n} {l} r x) k h a =
    elim (ℕ_discrete k n) [
      | yes e ↦ first_append l n k (λ b. omega (arith, (lists_member r 0 b).below)) (λ z. omega arith)
      | no y ↦ first_append l n k (λ b. lists_least r k (omega arith) a) (λ z. omega (arith, (lists_find k r (omega arith) a).place_lt))
    ]
lists_least {A} (skip {n} r x) k h a =
    elim (ℕ_discrete k n) [ yes e ↦ absurd (x (subst A e a)) | no y ↦ lists_least r k (omega arith) a ]

-- the members below k, and those from k on
pub lists_from : {A : ℕ → Type 0} {n k : ℕ} (before : List ℕ) {l : List ℕ} → Lists A k before → ListsFrom A n k l → Lists A n (before ++ l)
lists_from before r none = rw (append-nil before) r
lists_from before r (keep_from {k} {l} a t) = rw (append_assoc before (k ∷ []) l) at (lists_from (before ++ (k ∷ [])) (keep r a) t)
lists_from before r (skip_from x t) = lists_from before (skip r x) t

module _ (A : ℕ → Type 0) where
  pub count_none : Count A 0 0
  count_none = record { list = []; lists = done; is = refl }

  pub count_keep : {j c : ℕ} → Count A j c → A j → Count A (j + 1) (c + 1)
  count_keep {j} r a =
      record {
        list = r.list ++ (j ∷ []);
        lists = rw (add-one j) (keep r.lists a);
        is = length-append r.list (j ∷ []) ∙ ap (λ (i : ℕ). i + 1) r.is;
      }

  pub count_skip : {j c : ℕ} → Count A j c → (A j → ⊥) → Count A (j + 1) c
  count_skip {j} r x = record { list = r.list; lists = rw (add-one j) (skip r.lists x); is = r.is }

  -- two counts of one set are equal
  pub count_unique : {n m c d : ℕ} → n ≡ m → Count A n c → Count A m d → c ≡ d
  count_unique e r q = sym r.is ∙ ap length (lists_unique (rw e at r.lists) q.lists) ∙ q.is
