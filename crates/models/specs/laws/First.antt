-- Laws of what is said first.
use Rattle.std.specs.Prelude.{Result, Ok, Err, Option, ◌≡◌, Bool, true, false, not, List, get_or}
use Rattle.std.specs.Result.{result_and}
use Rattle.std.proofs.Math.Path.{refl, sym}
use Rattle.std.proofs.Common.{ap, ◌∙◌, true≢false, not-suc-le-zero, lt-suc_self}
use Rattle.std.proofs.lemmas.Bool.{false≢true}
use Prim.Native.Nat.{ℕ, zero, suc, ◌+◌, ◌≤◌, ◌<◌}
use native.Mathlib.Omega.{arith}
use Rattle.std.proofs.Math.Numerals.{add-one}
use Rattle.std.proofs.Math.Decide.{ℕ_discrete}
use borrow.Author.Tests.{eq-eqb, ne_eqb}
use Rattle.models.specs.declared.Fault.{Fault}
use Rattle.models.specs.declared.Judged.{Judged}
use Rattle.models.specs.declared.Judged.TheVariants.{Yes, No, Refused}
use Rattle.problem.specs.Layout.{root_at}
use Rattle.models.specs.Judgement.{refuse, ◌next◌, first_said, contradicted_at, zero_at}
use Rattle.models.specs.inner.Judging.{is_yes, said, told, unmarked_at, is_contradicted}

pub yes_is : (a : Judged) → is_yes a ≡ true → a ≡ Yes
yes_is Yes h = refl
yes_is (No j) h = absurd (false≢true h)
yes_is (Refused f) h = absurd (false≢true h)

pub refused_not : (f : Fault) → Refused f ≡ Yes → ⊥
refused_not f h = false≢true (ap is_yes h)

pub next_stays : (a b : Judged) → is_yes a ≡ false → a ≡ (a next b)
unfolding ◌next◌
next_stays Yes b h = absurd (true≢false h)
next_stays (No j) b h = refl
next_stays (Refused f) b h = refl

pub next_yes : (a b : Judged) → a ≡ Yes → (a next b) ≡ b
unfolding ◌next◌
next_yes a b e = rw e

pub next_assoc : (a b c : Judged) → ((a next b) next c) ≡ (a next (b next c))
unfolding ◌next◌
next_assoc Yes b c = refl
next_assoc (No j) b c = refl
next_assoc (Refused f) b c = refl

-- where nothing is said of two, nothing is said of each
pub next_left : (a b : Judged) → (a next b) ≡ Yes → a ≡ Yes
unfolding ◌next◌
next_left Yes b h = refl
next_left (No j) b h = absurd (false≢true (ap is_yes h))
next_left (Refused f) b h = absurd (false≢true (ap is_yes h))

pub next_right : (a b : Judged) → (a next b) ≡ Yes → b ≡ Yes
next_right a b h = sym (next_yes a b (next_left a b h)) ∙ h

-- an answer r to one of two, as code finds it
pub answered : (a b r : Judged) → r ≡ a → is_yes r ≡ false → r ≡ (a next b)
answered a b r e h = next_stays r b h ∙ ap (λ (x : Judged). x next b) e

pub passed : (a b r t : Judged) → r ≡ a → is_yes r ≡ true → t ≡ b → t ≡ (a next b)
passed a b r t e h k = k ∙ sym (next_yes a b (sym e ∙ yes_is r h))

-- ---- as code says it, by `and` and `?`

pub said_and : (a b : Result Unit Fault) → said (result_and a b) ≡ (said a next said b)
unfolding ◌next◌
said_and (Ok tt) b = refl
said_and (Err f) b = refl

pub and_said : (a b r : Result Unit Fault) (x : Judged) → r ≡ result_and a b → said b ≡ x → said r ≡ (said a next x)
and_said a b r x e h = rw e (said_and a b ∙ rw h)

module _ (a b : Judged) (r : Result Unit Fault) (e : said r ≡ a) where
  pub failed : (f : Fault) → r ≡ Err f → (t : Result (Option ℕ) Fault) → t ≡ Err f → told t ≡ (a next b)
  failed f h t z = let q : Refused f ≡ a = rw h at e in rw z (next_stays (Refused f) b refl ∙ ap (λ (x : Judged). x next b) q)

  pub went : (u : Unit) (t : Judged) → r ≡ Ok u → t ≡ b → t ≡ (a next b)
  went tt t h k = let q : Yes ≡ a = rw h at e in k ∙ sym (next_yes a b (sym q))

pub nothing : (a : Judged) (r : Result Unit Fault) → said r ≡ a → (u : Unit) → r ≡ Ok u → a ≡ Yes
nothing a r e tt h = let q : Yes ≡ a = rw h at e in sym q

-- ---- one refusal

pub refuse_given : (n p : ℕ) (t : Bool) → t ≡ true → Refused (record { number = n; place = p }) ≡ refuse n p t
unfolding refuse
refuse_given n p t h = rw h

pub refuse_not : (n p : ℕ) (t : Bool) → t ≡ false → refuse n p t ≡ Yes
unfolding refuse
refuse_not n p t h = rw h

pub not_refused : (n p : ℕ) (t : Bool) → refuse n p t ≡ Yes → t ≡ false
unfolding refuse
not_refused n p true h = absurd (refused_not _ h)
not_refused n p false h = refl

-- a line after what was said before: r tells whether that is nothing
module _ (a : Judged) (r : Bool) (q : r ≡ is_yes a) where
  pub line_stays : (b : Judged) → r ≡ false → a ≡ (a next b)
  line_stays b h = next_stays a b (sym q ∙ h)

  pub line_next : (b : Judged) → r ≡ true → b ≡ (a next b)
  line_next b h = sym (next_yes a b (yes_is a (sym q ∙ h)))

pub line_given : (a : Judged) (r : Bool) (n p : ℕ) (t : Bool) → r ≡ is_yes a → r ≡ true → t ≡ true
    → Refused (record { number = n; place = p }) ≡ (a next refuse n p t)
line_given a r n p t q h e = refuse_given n p t e ∙ line_next a r q (refuse n p t) h

pub line_passed : (a : Judged) (r : Bool) (n p : ℕ) (t : Bool) → r ≡ is_yes a → r ≡ true → t ≡ false → Yes ≡ (a next refuse n p t)
line_passed a r n p t q h e = sym (refuse_not n p t e) ∙ line_next a r q (refuse n p t) h

-- by a test
module _ (n p : ℕ) (t : Bool) (r : Result Unit Fault) (q : said r ≡ refuse n p t) where
  pub not_given : (u : Unit) → r ≡ Ok u → t ≡ false
  not_given u h = not_refused n p t (nothing (refuse n p t) r q u h)

  pub given : (f : Fault) → r ≡ Err f → t ≡ true
  unfolding refuse
  given f h = by t (rw h at q)
    where
      by : (t : Bool) → Refused f ≡ refuse n p t → t ≡ true
      by true e = refl
      by false e = absurd (refused_not f e)

-- ---- the first of many

module _ (f : ℕ → Judged) where
  pub said_none : first_said f 0 ≡ Yes
  unfolding first_said
  said_none = refl

  -- one more, of what was said so far
  pub said_next : (k : ℕ) (a b r : Judged) → a ≡ first_said f k → b ≡ f k → r ≡ (a next b) → r ≡ first_said f (k + 1)
  unfolding first_said
  said_next k a b r e h q = q ∙ rw (add-one, e, h)

  pub said_more : (k : ℕ) → first_said f k ≡ Yes → f k ≡ Yes → first_said f (k + 1) ≡ Yes
  unfolding first_said
  said_more k h e = rw add-one (next_yes (first_said f k) (f k) h ∙ e)

  stays : (k n : ℕ) → is_yes (first_said f k) ≡ false → k ≤ n → first_said f n ≡ first_said f k
  unfolding first_said
  stays k zero h l = let e : k ≡ 0 = omega arith in rw e
  stays k (suc n) h l =
      elim (ℕ_discrete k (suc n)) [
        | yes e ↦ rw e
        | no x ↦
            let g : first_said f n ≡ first_said f k = stays k n h (omega arith) in
            sym (next_stays (first_said f n) (f n) (ap is_yes g ∙ h)) ∙ g
      ]

  -- the first that is said, at k
  pub said_at : (k n : ℕ) (r : Judged) → first_said f k ≡ Yes → r ≡ f k → is_yes r ≡ false → k < n → r ≡ first_said f n
  unfolding first_said
  said_at k n r h e i l =
      let g : first_said f (suc k) ≡ r = next_yes (first_said f k) (f k) h ∙ sym e in
      sym (stays (suc k) n (ap is_yes g ∙ i) l ∙ g)

  -- the same by `?`
  module _ (k : ℕ) (h : first_said f k ≡ Yes) (r : Result Unit Fault) (e : said r ≡ f k) where
    pub said_fault : (n : ℕ) (x : Fault) → r ≡ Err x → k < n → (t : Result Unit Fault) → t ≡ Err x → said t ≡ first_said f n
    said_fault n x q l t z = let i : Refused x ≡ f k = rw q at e in rw z (said_at k n (Refused x) h i refl l)

    pub said_passed : (u : Unit) → r ≡ Ok u → first_said f (k + 1) ≡ Yes
    said_passed u q = said_more k h (nothing (f k) r e u q)

  pub said_end : (k n : ℕ) → first_said f k ≡ Yes → k ≤ n → n ≤ k → Yes ≡ first_said f n
  said_end k n h a b = let e : k ≡ n = omega arith in sym h ∙ ap (first_said f) e

  pub said_each : (n : ℕ) → first_said f n ≡ Yes → (k : ℕ) → k < n → f k ≡ Yes
  unfolding first_said
  said_each zero h k l = absurd (not-suc-le-zero l)
  said_each (suc n) h k l =
      elim (ℕ_discrete k n) [
        | yes e ↦ rw e (next_right (first_said f n) (f n) h)
        | no x ↦ said_each n (next_left (first_said f n) (f n) h) k (omega arith)
      ]

pub said_same : (f g : ℕ → Judged) (n : ℕ) → ((k : ℕ) → k < n → f k ≡ g k) → first_said f n ≡ first_said g n
unfolding first_said
said_same f g zero h = refl
said_same f g (suc n) h =
    ap (λ (a : Judged). a next f n) (said_same f g n (λ k l. h k (omega arith)))
    ∙ ap (λ (b : Judged). first_said g n next b) (h n (lt-suc_self n))

-- ---- the marks

module _ (ids : List ℕ) (marks : List Bool) (k id : ℕ) (e : id ≡ get_or ids k 0) (r : Result Unit Fault) (q : said r ≡ refuse 35 id (not (get_or marks k false)))
    (h : first_said (unmarked_at ids marks) k ≡ Yes) where
  unmarked_said : said r ≡ unmarked_at ids marks k
  unmarked_said = q ∙ ap (λ (i : ℕ). refuse 35 i (not (get_or marks k false))) e

  pub unmarked_fault : (n : ℕ) (x : Fault) → r ≡ Err x → k < n → (u : Result Unit Fault) → u ≡ Err x → said u ≡ first_said (unmarked_at ids marks) n
  unmarked_fault = said_fault (unmarked_at ids marks) k h r unmarked_said

  pub unmarked_passed : (u : Unit) → r ≡ Ok u → first_said (unmarked_at ids marks) (k + 1) ≡ Yes
  unmarked_passed = said_passed (unmarked_at ids marks) k h r unmarked_said

-- ---- the fixed bits

module _ (s vs : List ℕ) (i : ℕ) (t : Bool) (e : t ≡ is_contradicted s vs i) (r : Result Unit Fault) (q : said r ≡ refuse 36 i t)
    (h : first_said (contradicted_at s vs) i ≡ Yes) where
  contradicted_said : said r ≡ contradicted_at s vs i
  unfolding contradicted_at is_contradicted
  contradicted_said = q ∙ ap (refuse 36 i) e

  pub contradicted_fault : (n : ℕ) (x : Fault) → r ≡ Err x → i < n → (u : Result Unit Fault) → u ≡ Err x → said u ≡ first_said (contradicted_at s vs) n
  contradicted_fault = said_fault (contradicted_at s vs) i h r contradicted_said

  pub contradicted_passed : (u : Unit) → r ≡ Ok u → first_said (contradicted_at s vs) (i + 1) ≡ Yes
  contradicted_passed = said_passed (contradicted_at s vs) i h r contradicted_said

-- ---- the roots

module _ (s vs : List ℕ) (j id v : ℕ) (p : id ≡ root_at s j) (q : v ≡ get_or vs id 0) where
  pub zero_found : v ≡ 0 → No j ≡ zero_at s vs j
  unfolding zero_at
  zero_found z = rw (← p, ← q, eq-eqb v 0 z)

  pub zero_not : (v ≡ 0 → ⊥) → zero_at s vs j ≡ Yes
  unfolding zero_at
  zero_not x = rw (← p, ← q, ne_eqb v 0 x)
