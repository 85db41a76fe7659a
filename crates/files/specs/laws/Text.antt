-- Laws of the printed text: a number's digits, what they say, and how long the text can be.
use Rattle.std.specs.Prelude.{◌≡◌, refl, Bool, true, false, cond, List, [], ◌∷◌, ◌++◌, ℕ, zero, suc, ◌+◌, ◌-◌, ◌*◌, ◌/◌, ◌%◌, ◌^◌, ◌≤◌, ◌<◌, ltb, eqb, length, get_or}
use Rattle.std.proofs.Common.{sym, ap, ◌∙◌, arith, pow-suc, length-append, lt-ltb, le-ltb}
use Prim.Native.String.{String}
use Rattle.problem.specs.declared.Refusal.{Refusal}
use Rattle.problem.specs.Layout.{node_count, node_at}
use Rattle.search.specs.declared.Verdict.{Verdict}
use Rattle.search.specs.declared.Verdict.TheVariants.{Model, Spent, Ended, Closed}
use Rattle.search.specs.declared.Outcome.{Outcome}
use Rattle.search.specs.declared.Outcome.TheVariants.{Refused, Settled}
use Rattle.search.specs.declared.Answer.{Answer}
use Rattle.search.specs.Answers.{number_of, place_of}
use Rattle.files.specs.Text.{ascii, digit, decimal_in, decimal, labelled, name_of, refused_line, verdict_line, variable_line, node_line, lines_below, lines_of, printed}

-- ---- a number's digits

-- one place more than a number takes makes no difference
enough : (k n : ℕ) → n < 10 ^ suc k → decimal_in (suc k) n ≡ decimal_in k n
unfolding decimal_in
enough zero n h = rw (lt-ltb n 10 h)
enough (suc k) n h =
    let l : n / 10 < 10 ^ suc k = omega (arith, pow-suc 10 (suc k)) in
    ap (λ (ds : List ℕ). cond (ltb n 10) (digit n ∷ []) (ds ++ digit (n % 10) ∷ [])) (enough k (n / 10) l)

-- a number of one digit, and of more: the digits of a tenth of it, and then its last
pub decimal_one : (n : ℕ) → n < 10 → decimal n ≡ digit n ∷ []
unfolding decimal decimal_in
decimal_one n h = rw (lt-ltb n 10 h)

last_digit : (k n : ℕ) → 10 ≤ n → decimal_in (suc k) n ≡ decimal_in k (n / 10) ++ digit (n % 10) ∷ []
unfolding decimal_in
last_digit k n h = rw (le-ltb n 10 h)

pub decimal_more : (n : ℕ) → 10 ≤ n → n < 2 ^ 64 → decimal n ≡ decimal (n / 10) ++ digit (n % 10) ∷ []
unfolding decimal
decimal_more n h b =
    let l : n / 10 < 10 ^ 19 = omega arith in
    last_digit 18 n h ∙ ap (λ (ds : List ℕ). ds ++ digit (n % 10) ∷ []) (sym (enough 18 (n / 10) l))

-- ---- what the digits say

-- the number that digits say, after the number a said by those before them
unfoldable pub said : ℕ → List ℕ → ℕ
said a [] = a
said a (d ∷ ds) = said (10 * a + (d - 48)) ds

said_last : (a : ℕ) (ds : List ℕ) (d : ℕ) → said a (ds ++ d ∷ []) ≡ 10 * said a ds + (d - 48)
unfolding said
said_last a [] d = refl
said_last a (x ∷ ds) d = said_last (10 * a + (x - 48)) ds d

one_digit : (n : ℕ) → said 0 (digit n ∷ []) ≡ n
unfolding said
one_digit n = omega arith

said_in : (k n : ℕ) → n < 10 ^ suc k → said 0 (decimal_in k n) ≡ n
unfolding decimal_in
said_in zero n h = one_digit n
said_in (suc k) n h = by (ltb n 10) (λ l. said_in k (n / 10) l)
  where
    by :
        (t : Bool)
        → (n / 10 < 10 ^ suc k → said 0 (decimal_in k (n / 10)) ≡ n / 10)
        → said 0 (cond t (digit n ∷ []) (decimal_in k (n / 10) ++ digit (n % 10) ∷ [])) ≡ n
    by true e = one_digit n
    by false e =
        let s = e (omega (arith, pow-suc 10 (suc k))) in
        said_last 0 (decimal_in k (n / 10)) (digit (n % 10)) ∙ omega arith

-- the digits printed of a number say that number
pub decimal_says : (n : ℕ) → n < 2 ^ 64 → said 0 (decimal n) ≡ n
unfolding decimal
decimal_says n h = said_in 19 n (omega arith)

-- ---- what is printed, by what the answer holds
pub printed_refused : (s vs : List ℕ) (a : Answer) (r : Refusal) → a.outcome ≡ Refused r → printed s vs a ≡ refused_line (Refused r)
unfolding printed lines_of
printed_refused s vs a r e = ap (lines_of s vs a) e

pub printed_settled :
    (s vs : List ℕ) (a : Answer) (v : Verdict) (n : ℕ)
    → a.outcome ≡ Settled v
    → n ≡ node_count s
    → printed s vs a ≡ verdict_line a v ++ lines_below s vs n
unfolding printed lines_of
printed_settled s vs a v n e f = rw f (ap (lines_of s vs a) e)

-- ---- how long the text can be

-- at most n bytes
pub record Short (n : ℕ) (xs : List ℕ) : Type 0 where
  pub most : length xs ≤ n

both : {m n : ℕ} {xs ys : List ℕ} → Short m xs → Short n ys → Short (m + n) (xs ++ ys)
both {xs = xs} {ys = ys} a b = record { most = omega (arith, length-append xs ys) }

short_in : (k n : ℕ) → Short (k + 1) (decimal_in k n)
unfolding decimal_in
short_in zero n = record { most = omega arith }
short_in (suc k) n = by (ltb n 10) (short_in k (n / 10))
  where
    by :
        (t : Bool)
        → Short (k + 1) (decimal_in k (n / 10))
        → Short (suc k + 1) (cond t (digit n ∷ []) (decimal_in k (n / 10) ++ digit (n % 10) ∷ []))
    by true s = record { most = omega arith }
    by false s = record { most = omega (arith, length-append (decimal_in k (n / 10)) (digit (n % 10) ∷ [])) }

short_decimal : (n : ℕ) → Short 20 (decimal n)
unfolding decimal
short_decimal n = short_in 19 n

-- a text of as many bytes as it has
short_text : (l : String) → Short (length (ascii l)) (ascii l)
short_text l = record { most = omega arith }

short_labelled : (l : String) (n : ℕ) → Short (length (ascii l) + 20) (labelled l n)
unfolding labelled
short_labelled l n = both (short_text l) (short_decimal n)

short_name : (v : Verdict) → Short 6 (name_of v)
unfolding name_of ascii
short_name Model = record { most = omega arith }
short_name Spent = record { most = omega arith }
short_name Ended = record { most = omega arith }
short_name Closed = record { most = omega arith }

short_refused : (o : Outcome) → Short 53 (refused_line o)
unfolding refused_line ascii
short_refused o = both (both (short_labelled "refused " (number_of o)) (short_labelled " at " (place_of o))) (short_text "\n")

short_verdict : (a : Answer) (v : Verdict) → Short 96 (verdict_line a v)
unfolding verdict_line ascii
short_verdict a v =
    both
    (both
    (both (both (both (short_text "verdict ") (short_name v)) (short_labelled " moves " a.moves)) (short_labelled " steps " a.steps))
    (short_labelled " words " a.words))
    (short_text "\n")

short_variable : (i v : ℕ) → Short 42 (variable_line i v)
unfolding variable_line ascii
short_variable i v = both (both (short_decimal i) (short_labelled " " v)) (short_text "\n")

short_node : (s vs : List ℕ) (i : ℕ) → Short 42 (node_line s vs i)
unfolding node_line
short_node s vs i = by (eqb (node_at s i).kind 0)
  where
    by : (t : Bool) → Short 42 (cond t (variable_line i (get_or vs i 0)) [])
    by true = short_variable i (get_or vs i 0)
    by false = record { most = omega arith }

short_lines : (s vs : List ℕ) (n : ℕ) → Short (42 * n) (lines_below s vs n)
unfolding lines_below
short_lines s vs zero = record { most = omega arith }
short_lines s vs (suc n) =
    let l = both (short_lines s vs n) (short_node s vs n) in record { most = omega (arith, l.most) }

-- a refusal's line, and the lines of a problem of at most 1,024 nodes, have room in 43,104 bytes
pub short_printed :
    (s vs : List ℕ) (a : Answer)
    → ((v : Verdict) → a.outcome ≡ Settled v → node_count s ≤ 1024)
    → Short 43104 (printed s vs a)
unfolding printed lines_of
short_printed s vs a few = by a.outcome refl
  where
    by : (o : Outcome) → a.outcome ≡ o → Short 43104 (lines_of s vs a o)
    by (Refused r) e = record { most = omega (arith, (short_refused (Refused r)).most) }
    by (Settled v) e =
        let l = both (short_verdict a v) (short_lines s vs (node_count s)) in record { most = omega (arith, l.most, few v e) }
