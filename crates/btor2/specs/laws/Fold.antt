-- Laws of the fold over the lines, and of the bytes written at its end.
use Rattle.std.specs.Prelude.{◌≡◌, refl, ℕ, ◌+◌, ◌-◌, ◌*◌, ◌≤◌, ◌<◌, length, take, drop, Result, Ok, Err}
use Rattle.std.proofs.Common.{sym, ap, ◌∙◌, ⊎_elim, arith, add-one, take-add, le-ltb, lt-ltb, length-set}
use Rattle.std.proofs.lemmas.Bool.{false≢true}
use Rattle.words.specs.laws.Bits.{lt_or_ge}
use mathlib.Core.List.{List, [], ◌∷◌, ◌++◌}
use Rattle.std.proofs.lemmas.List.Edits.{sets}
use Rattle.texts.specs.declared.runs.Class.TheVariants.{Line}
use Rattle.texts.specs.Runs.{is_in, length_of_run, split}
use Rattle.lines.specs.declared.fault.Fault.{Fault}
use Rattle.lines.specs.declared.fault.Fault.TheVariants.{Room}
use Rattle.lines.specs.Faults.{fault_number}
use Rattle.lines.specs.laws.Faults.{fault_not_none}
use Rattle.btor2.specs.declared.Refusal.{Refusal}
use Rattle.btor2.specs.declared.take.Counts.{Counts}
use Rattle.lines.specs.Lines.{Token, lines, kept, tokens}
use Rattle.btor2.specs.Conversion.{State, start, size, known, line_fault, after_line, converted, refused, convert_from, outcome, bytes_of}
use Rattle.spelling.specs.Bytes.{little_endian, all_nodes, all_roots}
use Rattle.btor2.specs.Answer as answers
use Rattle.btor2.specs.Answer.{Answers, Converts}
use Rattle.btor2.specs.inner.Kept.{SortsKept, SortNoted, same, noted}
use Rattle.btor2.specs.inner.Taking.{nothing, Lengths, Kept, Stepped, next, fault}
use Rattle.spelling.specs.inner.Written.{header_bytes, Wrote}
use Rattle.btor2.specs.inner.Folding.{Holds, Ends, done, stopped}
use Rattle.lines.specs.laws.Text.{lines_last, lines_more, Begins, begins_next}
use Rattle.btor2.specs.laws.Reached.{Reached, begin, more, fold_more, fold_stops}
use Rattle.btor2.specs.laws.Passed.{passes}
use Rattle.btor2.specs.laws.Sound.{start_sound, reached_sound}
use Rattle.btor2.specs.laws.Sorts.{sorts_none, sorts_noted}
use Rattle.btor2.specs.laws.Step.{named_of}

-- what is left to be folded, after so many lines
pub record Folded (room : ℕ) (text : List ℕ) (passed : ℕ) (n : Counts) (bytes ids places rooted : List ℕ) : Type 0 where
  pub state : State
  pub kept : Kept room state (take passed (lines text)) n bytes ids places rooted
  pub rest : convert_from room start 1 (lines text) ≡ convert_from room state (passed + 1) (drop passed (lines text))

-- with the sorts that are kept beside it
pub record Going (room : ℕ) (text : List ℕ) (passed : ℕ) (n : Counts) (bytes ids places rooted : List ℕ) (sorts : ℕ) (sort_ids widths : List ℕ) : Type 0 where
  pub folded : Folded room text passed n bytes ids places rooted
  pub sorts_kept : SortsKept folded.state sorts sort_ids widths

pub folded_none : (room : ℕ) (text bytes ids places rooted : List ℕ) → Lengths bytes ids places rooted
    → Folded room text 0 nothing bytes ids places rooted
unfolding all_nodes known
folded_none room text bytes ids places rooted L =
    record {
      state = start;
      kept =
          record {
            reached = begin;
            last_is = refl;
            nodes_are = refl;
            roots_are = refl;
            written = refl;
            held = refl;
            named = named_of start_sound (λ k h. absurd (omega arith)) (λ k h. absurd (omega arith)) (λ id h. absurd (false≢true h));
            under = λ k h. absurd (omega arith);
            fits =
                record {
                  bytes_long = L.bytes_long;
                  ids_long = L.ids_long;
                  places_long = L.places_long;
                  rooted_long = L.rooted_long;
                  nodes_few = omega arith;
                  roots_few = omega arith;
                  names_few = omega arith;
                  rising = record { inside = omega arith; rises = λ i j a b. absurd (omega arith) };
                };
          };
      rest = refl;
    }

pub going_none : (room : ℕ) (text bytes ids places rooted sort_ids widths : List ℕ) → Lengths bytes ids places rooted
    → Going room text 0 nothing bytes ids places rooted 0 sort_ids widths
going_none room text bytes ids places rooted sort_ids widths L =
    let F = folded_none room text bytes ids places rooted L in
    record { folded = F; sorts_kept = sorts_none F.state sort_ids widths }

-- a fault is a line's that is not empty
no_tokens : tokens [] ≡ []
unfolding tokens kept split
no_tokens = refl

pub fault_some : {room : ℕ} {σ : State} {ls : List (List ℕ)} {l b i p r : List ℕ} {m : Fault} {s : Result Counts Fault} → Stepped room σ ls l b i p r s → s ≡ Err m → 0 < length l
unfolding line_fault
fault_some (next f k) e = absurd (let y : ◌≡◌ {A = ℕ} 0 1 = cc in omega arith)
fault_some {l = []} (fault {f} h) e = absurd (fault_not_none f (sym h ∙ rw no_tokens))
fault_some {l = x ∷ l} (fault h) e = omega arith

-- what was reached fits the room
pub reached_room : {room : ℕ} {ls : List (List ℕ)} {σ : State} → Reached room ls σ → 9 ≤ room → size σ ≤ room
unfolding after_line
reached_room begin h = omega arith
reached_room {room} (more {ls} {σ} l r e) h = by (tokens l) e (reached_room r h)
  where
    by : (ts : List Token) → line_fault room σ ts ≡ 0 → size σ ≤ room → size (after_line σ ts) ≤ room
    by [] f g = g
    by (t ∷ ts) f g = (passes room σ t ts f).enough

-- the line that begins at place n, up to e
module _ {room : ℕ} {text : List ℕ} {passed : ℕ} {n : Counts} {bytes ids places rooted : List ℕ} (F : Folded room text passed n bytes ids places rooted)
    (at e : ℕ) (b : Begins text at passed) (h : e ≡ at + length_of_run (is_in Line) (drop at text)) where
  abbrev line : List ℕ
  line = take (e - at) (drop at text)

  module _ (rest : List (List ℕ)) (q : lines (drop at text) ≡ line ∷ rest) where
    here : drop passed (lines text) ≡ line ∷ rest
    here = sym b ∙ q

    longer : take (passed + 1) (lines text) ≡ take passed (lines text) ++ line ∷ []
    longer = take-add passed 1 (lines text) ∙ rw here

    stops : {b i p r : List ℕ} {m : Fault} {s : Result Counts Fault} → Stepped room F.state (take passed (lines text)) line b i p r s → s ≡ Err m
        → convert_from room start 1 (lines text) ≡ refused (fault_number m) (passed + 1)
    stops (next f k) y = absurd (let z : ◌≡◌ {A = ℕ} 0 1 = cc in omega arith)
    stops {m = m} (fault {f = f} e) y =
        let z : f ≡ m = cc in
        F.rest ∙ rw here (fold_stops room F.state (passed + 1) (fault_number m) line rest (e ∙ rw z) (fault_not_none m))

    passes_on : {b i p r : List ℕ} {n' : Counts} {s : Result Counts Fault} → Stepped room F.state (take passed (lines text)) line b i p r s → s ≡ Ok n'
        → (Kept room (after_line F.state (tokens line)) (take (passed + 1) (lines text)) n' b i p r)
        × (convert_from room start 1 (lines text) ≡ convert_from room (after_line F.state (tokens line)) (passed + 1 + 1) rest)
    passes_on {n' = n'} (next {n = n₀} f k) y =
        let z : n₀ ≡ n' = cc in
        (rw (longer, ← z) k, F.rest ∙ rw (here, add-one (passed + 1)) (fold_more room F.state (passed + 1) line rest f))
    passes_on (fault f) y = absurd (let z : ◌≡◌ {A = ℕ} 0 1 = cc in omega arith)

    sorts_on : {b i p r : List ℕ} {n' : Counts} {s : Result Counts Fault} {sorts sorts' : ℕ} {xs ws xs' ws' : List ℕ} → Stepped room F.state (take passed (lines text)) line b i p r s → s ≡ Ok n'
        → SortsKept F.state sorts xs ws → SortNoted (tokens line) sorts xs ws xs' ws' sorts' → SortsKept (after_line F.state (tokens line)) sorts' xs' ws'
    sorts_on (next f k) y K N = sorts_noted line F.kept.reached f (reached_sound k.reached).sorted K N
    sorts_on (fault f) y K N = absurd (let z : ◌≡◌ {A = ℕ} 0 1 = cc in omega arith)

  pub fold_fault : {b i p r : List ℕ} {m : Fault} {s : Result Counts Fault} → Stepped room F.state (take passed (lines text)) line b i p r s → s ≡ Err m
      → Ends room text b r (Err (record { fault = m; line = passed + 1 }))
  fold_fault S y = ⊎_elim (λ (l : e < length text). stopped (stops _ (lines_more text at e h l) S y)) (λ (l : length text ≤ e). stopped (stops _ (lines_last text at e h l) S y)) (lt_or_ge e (length text))

  pub fold_next : {b i p r : List ℕ} {n' : Counts} {s : Result Counts Fault} {sorts sorts' : ℕ} {xs ws xs' ws' : List ℕ} → Stepped room F.state (take passed (lines text)) line b i p r s → s ≡ Ok n'
      → e < length text → SortsKept F.state sorts xs ws → SortNoted (tokens line) sorts xs ws xs' ws' sorts'
      → Going room text (passed + 1) n' b i p r sorts' xs' ws'
  fold_next S y l K N =
      let P = passes_on (lines (drop (e + 1) text)) (lines_more text at e h l) S y in
      record {
        folded = record { state = after_line F.state (tokens line); kept = P.0; rest = P.1 ∙ rw (begins_next text at e passed b h l) };
        sorts_kept = sorts_on (lines (drop (e + 1) text)) (lines_more text at e h l) S y K N;
      }

  pub fold_done : {b i p r : List ℕ} {n' : Counts} {s : Result Counts Fault} → Stepped room F.state (take passed (lines text)) line b i p r s → s ≡ Ok n'
      → length text ≤ e → Ends room text b r (Ok n')
  unfolding convert_from
  fold_done S y l =
      let P = passes_on [] (lines_last text at e h l) S y in
      let K = P.0 in
      done (after_line F.state (tokens line)) P.1
      record {
        nodes_are = K.nodes_are;
        roots_are = K.roots_are;
        written = K.written;
        held = K.held;
        nodes_few = K.fits.nodes_few;
        roots_few = K.fits.roots_few;
        enough = reached_room K.reached;
      }

-- ---- bytes

header_mark : (nodes roots : ℕ) → header_bytes nodes roots ≡ 84 ∷ 66 ∷ 86 ∷ little_endian 2 1 ++ little_endian 2 nodes ++ little_endian 2 roots
unfolding header_bytes little_endian
header_mark nodes roots = refl

bytes_are : {room : ℕ} (σ : State) (bytes rooted : List ℕ) (n : Counts) → Holds room σ bytes rooted n
    → header_bytes n.nodes n.roots ++ take (24 * n.nodes) bytes ++ all_roots (take n.roots rooted) ≡ bytes_of σ
unfolding bytes_of
bytes_are σ bytes rooted n H = rw (H.written, H.held, header_mark n.nodes n.roots, H.nodes_are, H.roots_are)

-- the answer
pub answer_done : (text before after bytes rooted : List ℕ) (n : Counts) (r : ℕ) (s : Result Counts Refusal) → 9 ≤ length before → Ends (length before) text bytes rooted s → s ≡ Ok n
    → Wrote before bytes rooted n.nodes n.roots after r → Converts text before after (Ok r)
unfolding outcome bytes_of
answer_done text before after bytes rooted n r s h (done {n = n₀} σ c H) e W =
    let z : n₀ ≡ n = cc in
    let o : outcome (length before) text ≡ converted σ = rw (le-ltb (length before) 9 h) c in
    let G : Holds (length before) σ bytes rooted n = rw z at H in
    let c₁ : r ≡ size σ = W.count ∙ rw (G.nodes_are, G.roots_are) in
    let w₁ : after ≡ sets before 0 (bytes_of σ) = W.written ∙ ap (λ xs. sets before 0 xs) (bytes_are σ bytes rooted n G) in
    rw (o, c₁) (answers.done w₁)
answer_done text before after bytes rooted n r s h (stopped c) e W = absurd (let y : ◌≡◌ {A = ℕ} 0 1 = cc in omega arith)

pub answer_stopped : (text before after bytes rooted : List ℕ) (r : Refusal) (s : Result Counts Refusal) → 9 ≤ length before → Ends (length before) text bytes rooted s → s ≡ Err r
    → after ≡ before → Converts text before after (Err r)
unfolding outcome
answer_stopped text before after bytes rooted r s h (stopped {r = q} c) e w =
    let y : q ≡ r = cc in
    let o : outcome (length before) text ≡ refused (fault_number r.fault) r.line = rw (le-ltb (length before) 9 h) (c ∙ rw y) in
    rw o (answers.refuses refl refl w)
answer_stopped text before after bytes rooted r s h (done σ c H) e w = absurd (let y : ◌≡◌ {A = ℕ} 0 1 = cc in omega arith)

pub answer_short : (text before : List ℕ) → length before < 9 → Converts text before before (Err (record { fault = Room; line = 0 }))
unfolding outcome
answer_short text before h =
    let o : outcome (length before) text ≡ refused 5 0 = rw (lt-ltb (length before) 9 h) in
    rw o (answers.refuses refl refl refl)

-- what may be written
pub ends_room : {room : ℕ} {text bytes rooted : List ℕ} {s : Result Counts Refusal} → Ends room text bytes rooted s → (n : Counts) → s ≡ Ok n → 9 ≤ room
    → (9 + 24 * n.nodes + 2 * n.roots ≤ room) × (n.nodes ≤ 1024) × (n.roots ≤ 256)
ends_room (done {n = n₀} σ c H) n e h =
    let z : n₀ ≡ n = cc in
    rw (← z) (let v = H.enough h in let a = H.nodes_are in let b = H.roots_are in omega arith, H.nodes_few, H.roots_few)
ends_room (stopped c) n e h = absurd (let y : ◌≡◌ {A = ℕ} 0 1 = cc in omega arith)

-- a sort that is noted leaves the lengths, and there is room for it
pub noted_few : {ts : List Token} {sorts r : ℕ} {ids widths ids' widths' : List ℕ} → SortNoted ts sorts ids widths ids' widths' r → sorts ≤ 64 → length ids ≡ 64 → length widths ≡ 64
    → (r ≤ 64) × (length ids' ≡ 64) × (length widths' ≡ 64)
noted_few same h e f = (h, e, f)
noted_few {sorts = sorts} {ids = ids} {widths = widths} (noted w i j) h e f = (omega arith, length-set ids sorts _ ∙ e, length-set widths sorts _ ∙ f)
