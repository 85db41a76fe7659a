-- For worked cases of the paper: a set of numbers below n is given by a test, and a pick from it is proved by computing the test at every number.
use Rattle.std.proofs.Common.{sym, subst, inl, inr, ⊎_elim, eq-or-lt_of_le, le_of_suc-le-suc, not-suc-le-zero, not-le_of_lt, leb→le, ltb→lt}
use Rattle.std.specs.Prelude.{ℕ, zero, suc, ◌<◌, ◌≤◌, Bool, true, false, not, ◌&&◌, ◌||◌, T, ◌⊎◌, nat_le, nat_lt}
use Rattle.std.specs.Float.Ieee.Fits.{and_l, and_r}
use Rattle.words.specs.Pick.{Pick, above, around, Least}

-- the test holds at every number below n
abbrev pub every : ℕ → (ℕ → Bool) → Bool
every zero f = true
every (suc n) f = f n && every n f

pub every_at : (n : ℕ) (f : ℕ → Bool) → T (every n f) → (x : ℕ) → x < n → T (f x)
every_at zero f t x h = absurd (not-suc-le-zero h)
every_at (suc n) f t x h =
    ⊎_elim (λ e. subst (λ (k : ℕ). T (f k)) (sym e) (and_l (f n) (every n f) t)) (λ l. every_at n f (and_r (f n) (every n f) t) x l) (eq-or-lt_of_le (le_of_suc-le-suc h))

-- the numbers below n that pass the test
pub record Passes (n : ℕ) (f : ℕ → Bool) (x : ℕ) : Type 0 where
  pub below : x < n
  pub passes : T (f x)

abbrev is_none_from : ℕ → (ℕ → Bool) → ℕ → Bool
is_none_from n f p = every n (λ u. not (f u) || nat_lt u p)

abbrev least_from : ℕ → (ℕ → Bool) → ℕ → ℕ → Bool
least_from n f p v = (nat_lt v n && f v && nat_le p v) && every n (λ u. not (f u) || (nat_lt u p || nat_le v u))

-- v is the pick of the set with the proposal p, as a test
abbrev pub pick_is : ℕ → (ℕ → Bool) → ℕ → ℕ → Bool
pick_is n f p v = least_from n f p v || (is_none_from n f p && least_from n f 0 v)

or_case : (a b : Bool) → T (a || b) → T a ⊎ T b
or_case true b t = inl tt
or_case false b t = inr t

-- a test that is asked for only where a first one passes
pub passed : (a b : Bool) → T a → T (not a || b) → T b
passed true b h t = t
passed false b h t = absurd h

least_of : (n : ℕ) (f : ℕ → Bool) (p v : ℕ) → T (least_from n f p v) → Least (Passes n f) p v
least_of n f p v t = record {
  member = record { below = ltb→lt v n (and_l (nat_lt v n) (f v) (and_l (nat_lt v n && f v) (nat_le p v) (and_l (nat_lt v n && f v && nat_le p v) (every n g) t))); passes = and_r (nat_lt v n) (f v) (and_l (nat_lt v n && f v) (nat_le p v) (and_l (nat_lt v n && f v && nat_le p v) (every n g) t)) };
  from = leb→le p v (and_r (nat_lt v n && f v) (nat_le p v) (and_l (nat_lt v n && f v && nat_le p v) (every n g) t));
  least = least;
}
  where
    g : ℕ → Bool
    g = λ u. not (f u) || (nat_lt u p || nat_le v u)

    least : (u : ℕ) → Passes n f u → p ≤ u → v ≤ u
    least u m h = go (or_case (nat_lt u p) (nat_le v u) (passed (f u) (nat_lt u p || nat_le v u) m.passes (every_at n g (and_r (nat_lt v n && f v && nat_le p v) (every n g) t) u m.below)))
      where
        go : T (nat_lt u p) ⊎ T (nat_le v u) → v ≤ u
        go (inl l) = absurd (not-le_of_lt (ltb→lt u p l) h)
        go (inr l) = leb→le v u l

pub pick_of : (n : ℕ) (f : ℕ → Bool) (p v : ℕ) → T (pick_is n f p v) → Pick (Passes n f) p v
pick_of n f p v t = go (or_case (least_from n f p v) (is_none_from n f p && least_from n f 0 v) t)
  where
    none : T (is_none_from n f p) → (u : ℕ) → Passes n f u → p ≤ u → ⊥
    none k u m h = not-le_of_lt (ltb→lt u p (passed (f u) (nat_lt u p) m.passes (every_at n (λ u. not (f u) || nat_lt u p) k u m.below))) h

    go : T (least_from n f p v) ⊎ T (is_none_from n f p && least_from n f 0 v) → Pick (Passes n f) p v
    go (inl a) = above (least_of n f p v a)
    go (inr a) = around (none (and_l (is_none_from n f p) (least_from n f 0 v) a)) (least_of n f 0 v (and_r (is_none_from n f p) (least_from n f 0 v) a))
