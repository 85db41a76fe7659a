-- Which numbers a conversion tells, and that the line it names is one of the text.
use Rattle.std.specs.Prelude.{◌≡◌, refl, Bool, true, false, cond, not, ◌||◌, List, [], ◌∷◌, ◌++◌, ℕ, suc, ◌+◌, ◌≤◌, ◌<◌, eqb, leb, length}
use Rattle.std.proofs.Common.{sym, ap, ◌∙◌, ⊎_elim, arith, length-append}
use Rattle.words.specs.laws.Bits.{lt_or_ge}
use Rattle.texts.specs.Runs.{ascii, equal, is_feed, onto, split}
use Rattle.lines.specs.declared.table.Makes.{Makes}
use Rattle.lines.specs.declared.table.Makes.TheVariants.{Sort, Input, Value, Root}
use Rattle.lines.specs.Lines.{Token, token, lines, tokens}
use Rattle.lines.specs.Words.{number_of as word_number, word_of, shape}
use Rattle.lines.specs.Format.{◌or_else◌, given, is_word, is_id, id_wrong, bitvec_fault, sort_fault, arguments_wrong, format_fault}
use Rattle.btor2.specs.Conversion.{State, line_fault, Outcome, converted, refused, outcome}
use Rattle.btor2.specs.Answer.{Converted, Answers, done, refuses, Converts, number_of, line_of}
use Rattle.btor2.specs.promises.Order.{refused_exactly, refused_before, Told, format, ids, widths, space, passes, in_order}

-- ---- numbers

else_most : (b m n : ℕ) → m ≤ b → n ≤ b → (m or_else n) ≤ b
unfolding ◌or_else◌
else_most b m n h k = by (eqb m 0)
  where
    by : (t : Bool) → cond t n m ≤ b
    by true = k
    by false = h

given_most : (b n : ℕ) (t : Bool) → n ≤ b → given n t ≤ b
given_most b n true h = h
given_most b n false h = omega arith

sort_most : (m : Makes) (t : Token) → sort_fault m t ≤ 2
unfolding sort_fault bitvec_fault
sort_most Sort t = else_most 2 (given 1 (not (is_word t))) (given 2 (not (equal t (ascii "bitvec")))) (given_most 2 1 (not (is_word t)) (omega arith)) (given_most 2 2 (not (equal t (ascii "bitvec"))) (omega arith))
sort_most Input t = given_most 2 1 (not (is_id t)) (omega arith)
sort_most Value t = given_most 2 1 (not (is_id t)) (omega arith)
sort_most Root t = omega arith

pub format_most : (ts : List Token) → format_fault ts ≤ 2
unfolding format_fault
format_most ts =
    let k = word_number (token ts 1) in
    let a = id_wrong (token ts 0) || not (is_word (token ts 1)) in
    let b = leb 28 k in
    let m = (shape (word_of k)).makes in
    let d = arguments_wrong (shape (word_of k)) ts in
    else_most 2 (given 1 a) (given 2 b or_else sort_fault m (token ts 2) or_else given 1 d) (given_most 2 1 a (omega arith))
    (else_most 2 (given 2 b) (sort_fault m (token ts 2) or_else given 1 d) (given_most 2 2 b (omega arith))
    (else_most 2 (sort_fault m (token ts 2)) (given 1 d) (sort_most m (token ts 2)) (given_most 2 1 d (omega arith))))

told_most : {room : ℕ} {σ : State} {ts : List Token} {n : ℕ} → Told room σ ts n → n ≤ 5
told_most {ts = ts} (format e h) = omega (arith, format_most ts)
told_most (ids f i) = omega arith
told_most (widths f i m) = omega arith
told_most (space f i m s) = omega arith
told_most (passes f i m s) = omega arith

fault_most : (room : ℕ) (σ : State) (ts : List Token) → line_fault room σ ts ≤ 5
unfolding line_fault
fault_most room σ [] = omega arith
fault_most room σ (t ∷ ts) = told_most (in_order room σ t ts)

-- ---- lines

onto_length : (b : ℕ) (ts : List (List ℕ)) (n : ℕ) → length ts ≤ n + 1 → length (onto b ts) ≤ suc n + 1
unfolding onto
onto_length b [] n h = omega arith
onto_length b (t ∷ ts) n h = omega arith

pieces : (s : List ℕ) → length (split is_feed s) ≤ length s + 1
unfolding split
pieces [] = omega arith
pieces (b ∷ s) = by (is_feed b) (pieces s)
  where
    by : (t : Bool) → length (split is_feed s) ≤ length s + 1 → length (cond t ([] ∷ split is_feed s) (onto b (split is_feed s))) ≤ suc (length s) + 1
    by true h = omega arith
    by false h = onto_length b (split is_feed s) (length s) h

pub lines_few : (s : List ℕ) → length (lines s) ≤ length s + 1
unfolding lines
lines_few s = pieces s

-- ---- both

-- a refusal's number is 1 to 5, and its line one of the text, from 1, or 0
pub record Numbered (text : List ℕ) (r : Converted) : Type 0 where
  pub most : number_of r ≤ 5
  pub at_line : line_of r ≤ length text + 1

refused_few : (room : ℕ) (text : List ℕ) (n k : ℕ) → outcome room text ≡ refused n k → (n ≤ 5) × (k ≤ length text + 1)
refused_few room text n k e = ⊎_elim (λ (h : room < 9). short h) (λ (h : 9 ≤ room). long h) (lt_or_ge room 9)
  where
    short : room < 9 → (n ≤ 5) × (k ≤ length text + 1)
    short h =
        let f : refused 5 0 ≡ refused n k = sym (refused_before room text h) ∙ e in
        let x : 5 ≡ n = cc in
        let y : 0 ≡ k = cc in
        (omega arith, omega arith)

    long : 9 ≤ room → (n ≤ 5) × (k ≤ length text + 1)
    long h =
        let f = (refused_exactly room text n k h).0 e in
        let p = f.place in
        let w : length (lines text) ≡ length (f.before ++ f.line ∷ f.rest) = ap length f.whole in
        let a = length-append f.before (f.line ∷ f.rest) in
        let q = f.fails in
        (omega (arith, fault_most room f.state (tokens f.line)), omega (arith, lines_few text))

pub convert_numbered : (text before after : List ℕ) {r : Converted} → Converts text before after r → Numbered text r
convert_numbered text before after {r} c = by (outcome (length before) text) r refl c
  where
    by : (o : Outcome) (r : Converted) → outcome (length before) text ≡ o → Answers before after o r → Numbered text r
    by (converted σ) r e (done w) = record { most = omega arith; at_line = omega arith }
    by (refused n k) r e (refuses a b w) =
        let f = refused_few (length before) text n k e in
        record { most = rw a f.0; at_line = rw b f.1 }
