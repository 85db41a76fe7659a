-- Laws of names: bars, symbols, the lines of the list, and where a name stands in it.
use Rattle.std.specs.Prelude.{◌≡◌, ℕ, zero, suc, ◌+◌, ◌-◌, ◌<◌, ◌≤◌, min, Bool, true, false, cond, not, ◌&&◌, ◌||◌, List, [], ◌∷◌, length, get_or, take, drop, set, ◌==◌, ◌≢◌, nat_le, nat_lt, slice_index, slice_index_or, slice_range, slice_set, fold, refl, Option, Some, None, unwrap_or, is_some}
use Rattle.std.proofs.Math.Path.{sym, ap}
use Rattle.std.proofs.Common.{◌∙◌, true≢false, arith, not-suc-le-zero, zero-add, add-one, length-drop, drop_of_length-le, length-take-le, drop-cons, drop-drop, take-take, le-leb, lt-ltb, le-ltb, ltb-true, ltb-false}
use Rattle.std.proofs.lemmas.Bool.{false≢true, lt-leb}
use Rattle.std.proofs.Math.Decide.{dec_lt, ℕ_discrete}
use Rattle.std.proofs.Math.Seq.{get_or-set_same, get_or-set_other}
use Rattle.texts.specs.Runs.{is_in, length_of_run, equal}
use Rattle.texts.specs.laws.Runs.{run_inside, equal_same, equal_self}
use Rattle.texts.specs.declared.runs.Class.TheVariants.{Clean, Symbol, Line}
use Rattle.entries.specs.declared.names.NameLine.{NameLine}
use Rattle.entries.specs.Names.{is_barred, inside, is_simple, is_quoted, is_name, line_length, names, position, is_again, some}
use Rattle.entries.specs.inner.Places.{part, line_between, line_from, line_start, OnLine, NamedAt, Placed, filled, froms_up, tos_up, Written, counted, Lists, Named, digest_of, Digested, digests_up, Indexed, place_in, digest_from, digest_more}
use Rattle.entries.specs.laws.Pieces.{drop_min, chop_none, chop_front}

-- ---- bars

pub barred_short : (t : List ℕ) → length t < 2 → false ≡ is_barred t
unfolding is_barred
barred_short t h = rw (lt-leb 2 (length t) h)

pub barred_long : (t : List ℕ) → 2 ≤ length t → (slice_index t 0 == 124 && slice_index t (length t - 1) == 124) ≡ is_barred t
unfolding is_barred
barred_long t h = rw (le-leb 2 (length t) h)

pub barred_two : (t : List ℕ) (r : Bool) → r ≡ is_barred t → r ≡ true → 2 ≤ length t
barred_two t r q y =
    elim (dec_lt (length t) 2) [
      | yes h ↦ absurd (false≢true (barred_short t h ∙ sym q ∙ y))
      | no h ↦ omega arith
    ]

pub inside_plain : (t : List ℕ) (r : Bool) → r ≡ is_barred t → r ≡ false → t ≡ inside t
unfolding inside
inside_plain t r q y = rw (← q, y)

pub inside_barred : (t : List ℕ) (r : Bool) → r ≡ is_barred t → r ≡ true → take (length t - 1 - 1) (drop 1 t) ≡ inside t
unfolding inside
inside_barred t r q y =
    let e : length t - 1 - 1 ≡ length t - 2 = omega arith in rw (← q, y) (ap (λ (n : ℕ). take n (drop 1 t)) e)

-- ---- symbols

pub simple_is : (t : List ℕ) (r b : ℕ) → r ≡ 0 + length_of_run (is_in Symbol) (drop 0 t) → b ≡ slice_index t 0
    → (nat_lt 0 (length t) && r == length t && not (nat_le 48 b && nat_le b 57)) ≡ is_simple t
unfolding is_simple
simple_is t r b e q = rw (e ∙ zero-add _, q)

pub quoted_is : (t : List ℕ) (r : ℕ) (a : Bool) → a ≡ is_barred t → r ≡ 0 + length_of_run (is_in Clean) (drop 0 t)
    → (a && r == length t) ≡ is_quoted t
unfolding is_quoted
quoted_is t r a q e = rw (e ∙ zero-add _, q)

pub name_is : (t : List ℕ) (a b : Bool) → a ≡ is_simple t → b ≡ is_quoted t → (a || b) ≡ is_name t
unfolding is_name
name_is t a b p q = rw (p, q)

-- ---- the lines of the list

lines_step : (list : List ℕ) (at e next : ℕ) → at < length list → e ≡ at + length_of_run (is_in Line) (drop at list)
    → next ≡ min (e + 1) (length list)
    → names (drop at list) ≡ inside (slice_range list at e) ∷ names (drop next list)
unfolding names line_length
lines_step list at e next h k n =
    let l : 0 < length (drop at list) = omega (arith, length-drop at list) in
    let a : e - at ≡ length_of_run (is_in Line) (drop at list) = omega arith in
    let b : at + suc (length_of_run (is_in Line) (drop at list)) ≡ e + 1 = omega arith in
    chop_front (λ s. suc (length_of_run (is_in Line) s)) (λ s. inside (take (length_of_run (is_in Line) s) s) ∷ []) (drop at list) l
    (omega arith)
    ∙ rw (a, n, drop_min (e + 1) list, ← b, ← drop-drop (suc (length_of_run (is_in Line) (drop at list))) at list)

pub lines_none : (list : List ℕ) (at : ℕ) → length list ≤ at → names (drop at list) ≡ []
unfolding names
lines_none list at h = rw (drop_of_length-le list h) (chop_none (λ s. suc (line_length s)) (λ s. inside (take (line_length s) s) ∷ []))

-- the inside of a part, by its places
length_part : (l : List ℕ) (i n : ℕ) → i + n ≤ length l → length (take n (drop i l)) ≡ n
length_part l i n h = length-take-le n (drop i l) (omega (arith, length-drop i l))

drop_one_take : (n : ℕ) (l : List ℕ) → drop 1 (take n l) ≡ slice_range l 1 n
drop_one_take zero l = refl
drop_one_take (suc n) [] = take_none (suc n - 1)
  where
    take_none : (m : ℕ) → ◌≡◌ {A = List ℕ} [] (take m [])
    take_none zero = refl
    take_none (suc m) = refl
drop_one_take (suc n) (x ∷ xs) = let e : n ≡ suc n - 1 = omega arith in ap (λ (m : ℕ). take m xs) e

part_barred : (l : List ℕ) (at e : ℕ) (r : Bool) → e ≤ length l → at ≤ e → r ≡ is_barred (slice_range l at e) → r ≡ true
    → part l (at + 1) (e - 1) ≡ inside (slice_range l at e)
unfolding part
part_barred l at e r h o q y =
    let u = take (e - at) (drop at l) in
    let n : length u ≡ e - at = length_part l at (e - at) (omega arith) in
    let two : 2 ≤ length u = barred_two u r q y in
    let a : length u - 1 - 1 ≡ (e - 1) - (at + 1) = omega arith in
    sym (sym (inside_barred u r q y)
    ∙ ap (λ (m : ℕ). take m (drop 1 u)) a
    ∙ ap (λ (v : List ℕ). take ((e - 1) - (at + 1)) v) (drop_one_take (e - at) (drop at l))
    ∙ take-take ((e - 1) - (at + 1)) (e - at - 1) (drop 1 (drop at l)) (omega arith)
    ∙ ap (λ (v : List ℕ). take ((e - 1) - (at + 1)) v) (drop-drop 1 at l))

pub line_ends : (list : List ℕ) (at e : ℕ) → at < length list → e ≡ at + length_of_run (is_in Line) (drop at list) → (at ≤ e) × (e ≤ length list)
line_ends list at e h k = run_inside (is_in Line) list at e (omega arith) k

module _ (list : List ℕ) (at e next : ℕ) (r : Bool) (h : at < length list) (k : e ≡ at + length_of_run (is_in Line) (drop at list))
    (n : next ≡ min (e + 1) (length list)) (q : r ≡ is_barred (slice_range list at e)) where
  line_inside : (at ≤ e) × (e ≤ length list)
  line_inside = line_ends list at e h k

  -- a line with a byte at least, or with its line feed
  line_onward : at < next
  line_onward = omega (arith, line_inside)

  pub line_room : r ≡ true → at + 2 ≤ e
  line_room y =
      omega (arith, line_inside, barred_two (slice_range list at e) r q y, length_part list at (e - at) (omega (arith, line_inside)))

  line_exactly : (found : NameLine) → found ≡ line_between list at e → found ≡ line_from list at
  unfolding line_from line_length
  line_exactly found h = h ∙ ap (λ (n : ℕ). line_between list at n) k

  pub line_barred : r ≡ true → OnLine list at (record { from = at + 1; to = e - 1; next = next })
  line_barred y =
      record {
        exactly = line_exactly (record { from = at + 1; to = e - 1; next = next }) (rw (← q, y, n));
        within = record { ordered = omega (arith, line_room y); inside = omega (arith, line_inside) };
        onward = line_onward;
        inside = omega arith;
        told =
            lines_step list at e next h k n
            ∙ ap (λ (v : List ℕ). v ∷ names (drop next list)) (sym (part_barred list at e r line_inside.1 line_inside.0 q y));
      }

  pub line_plain : r ≡ false → OnLine list at (record { from = at; to = e; next = next })
  unfolding part
  line_plain y =
      record {
        exactly = line_exactly (record { from = at; to = e; next = next }) (rw (← q, y, n));
        within = record { ordered = line_inside.0; inside = line_inside.1 };
        onward = line_onward;
        inside = omega arith;
        told =
            lines_step list at e next h k n
            ∙ ap (λ (v : List ℕ). v ∷ names (drop next list)) (sym (inside_plain (slice_range list at e) r q y));
      }

-- ---- all lines

-- what the rest of a list begins with
pub rest_first : {A : Type 0} (l : List A) (k : ℕ) (d x : A) (r : List A) → drop k l ≡ x ∷ r
    → (k < length l) × (slice_index_or l k d ≡ x) × (drop (k + 1) l ≡ r)
rest_first {A = A} l k d x r h =
    let f : length l - k ≡ suc (length r) = sym (length-drop k l) ∙ ap length h in
    let i : k < length l = omega arith in
    let g : get_or l k d ∷ drop (suc k) l ≡ x ∷ r = sym (drop-cons l k d i) ∙ h in
    (i, ap (λ (m : List A). get_or m 0 d) g, rw add-one (ap (λ (m : List A). drop 1 m) g))

module _ (list froms tos : List ℕ) (at k : ℕ) (line : NameLine) (o : OnLine list at line) (s : names (drop at list) ≡ drop k (names list)) where
  line_first : (k < length (names list)) × (slice_index_or (names list) k [] ≡ part list line.from line.to) × (drop (k + 1) (names list) ≡ names (drop line.next list))
  line_first = rest_first (names list) k [] (part list line.from line.to) (names (drop line.next list)) (sym s ∙ o.told)

  pub line_counted : k + 1 ≤ length (names list)
  line_counted = omega (arith, line_first.0)

  pub line_next : names (drop line.next list) ≡ drop (k + 1) (names list)
  line_next = sym line_first.2

  pub line_placed : Placed list froms tos k → k < length froms → k < length tos → Placed list (slice_set froms k line.from) (slice_set tos k line.to) (k + 1)
  line_placed p a b j h =
      elim (ℕ_discrete j k) [
        | yes e ↦
            rw (e, get_or-set_same froms k line.from 0 a, get_or-set_same tos k line.to 0 b)
            (record { within = o.within; name = sym line_first.1 })
        | no x ↦ rw (get_or-set_other froms k j line.from 0 x, get_or-set_other tos k j line.to 0 x) (p j (omega arith))
      ]

-- ---- what is written

pub written_none : (list froms tos : List ℕ) → Written list froms tos froms tos 0
unfolding froms_up tos_up filled
written_none list froms tos = record { froms_are = refl; tos_are = refl }

pub line_first_at : (list : List ℕ) → 0 ≡ line_start list 0
unfolding line_start
line_first_at list = refl

line_later : (list : List ℕ) (k : ℕ) → (line_from list (line_start list k)).next ≡ line_start list (k + 1)
unfolding line_start
line_later list k = rw add-one

module _ (list : List ℕ) (at k : ℕ) (line : NameLine) (o : OnLine list at line) (s : at ≡ line_start list k) where
  pub line_starts : line.next ≡ line_start list (k + 1)
  line_starts = ap (λ (l : NameLine). l.next) o.exactly ∙ ap (λ (p : ℕ). (line_from list p).next) s ∙ line_later list k

  pub written_more :
      (froms tos froms' tos' : List ℕ)
      → Written list froms tos froms' tos' k
      → Written list froms tos (slice_set froms' k line.from) (slice_set tos' k line.to) (k + 1)
  unfolding froms_up tos_up filled
  written_more froms tos froms' tos' w =
      record {
        froms_are = rw (add-one, ← s, ← o.exactly) (ap (λ (l : List ℕ). set l k line.from) w.froms_are);
        tos_are = rw (add-one, ← s, ← o.exactly) (ap (λ (l : List ℕ). set l k line.to) w.tos_are);
      }

pub placed_none : (list froms tos : List ℕ) → Placed list froms tos 0
placed_none list froms tos j h = absurd (not-suc-le-zero h)

written_all : (list froms₀ tos₀ froms tos : List ℕ) (k n : ℕ) → Written list froms₀ tos₀ froms tos k → k ≡ n → Written list froms₀ tos₀ froms tos n
written_all list froms₀ tos₀ froms tos k n w e = rw e at w

-- so many names, or more than fit
counted_few : (n k : ℕ) → k ≡ n → k ≤ 1024 → Some k ≡ counted n
counted_few n k e l = rw (← e, le-leb k 1024 l)

counted_many : (n : ℕ) → 1024 < n → None ≡ counted n
counted_many n l = rw (lt-leb n 1024 l)

-- after the first k names, up to the place `at`
module _ (list froms₀ tos₀ froms tos : List ℕ) (at k : ℕ) (w : Written list froms₀ tos₀ froms tos k) (f : length froms ≡ 1024)
    (t : length tos ≡ 1024) (s : names (drop at list) ≡ drop k (names list)) where
  pub listed_more : 1024 ≤ k → k ≤ 1024 → at < length list → Lists list froms₀ tos₀ froms tos None
  listed_more m u h =
      let next = min (at + length_of_run (is_in Line) (drop at list) + 1) (length list) in
      let a = lines_step list at (at + length_of_run (is_in Line) (drop at list)) next h refl refl in
      let b : k < length (names list) = (rest_first (names list) k [] _ _ (sym s ∙ a)).0 in (
        record { froms_room = f; tos_room = t; count = counted_many _ (omega arith); placed = λ j e. absurd (some_not_none j e) },
        written_all list froms₀ tos₀ froms tos k (min (length (names list)) 1024) w (omega arith),
      )
    where
      some_not_none : (j : ℕ) → ◌≡◌ {A = Option ℕ} None (Some j) → ⊥
      some_not_none j e = false≢true (ap is_some e)

  pub listed_all : Placed list froms tos k → k ≤ length (names list) → k ≤ 1024 → length list ≤ at → (r : ℕ) → r ≡ k
      → Lists list froms₀ tos₀ froms tos (Some r)
  listed_all p l m h r q =
      let b : length (names list) - k ≡ 0 = sym (length-drop k (names list)) ∙ ap length (sym s ∙ lines_none list at h) in (
        record {
          froms_room = f;
          tos_room = t;
          count = counted_few _ _ (omega (arith, q)) (omega (arith, q));
          placed = λ j e. rw (sym q ∙ some_is e) at p;
        },
        written_all list froms₀ tos₀ froms tos k (min (length (names list)) 1024) w (omega arith),
      )
    where
      some_is : {j : ℕ} → ◌≡◌ {A = Option ℕ} (Some r) (Some j) → r ≡ j
      some_is e = ap (λ (o : Option ℕ). unwrap_or o 0) e

-- ---- where a name stands

position_at : (n : List ℕ) (ns : List (List ℕ)) (k : ℕ) → k < length ns
    → position n (drop k ns) ≡ cond (equal (slice_index_or ns k []) n) 0 (suc (position n (drop (suc k) ns)))
unfolding position
position_at n ns k h = rw (drop-cons ns k [] h)

module _ (n : List ℕ) (ns : List (List ℕ)) (k : ℕ) (t : Bool) (q : t ≡ equal (slice_index_or ns k []) n) where
  pub position_turn : t ≡ false → k < length ns → k + position n (drop k ns) ≡ position n ns
      → (k + 1) + position n (drop (k + 1) ns) ≡ position n ns
  position_turn y h i =
      let f : position n (drop k ns) ≡ suc (position n (drop (suc k) ns)) = position_at n ns k h ∙ rw (← q, y) in
      rw add-one (omega (arith, f, i))

  pub placed_here : t ≡ true → k < length ns → k + position n (drop k ns) ≡ position n ns → Some k ≡ place_in n ns
  unfolding place_in
  placed_here y h i =
      let f : position n (drop k ns) ≡ 0 = position_at n ns k h ∙ rw (← q, y) in
      let e : k ≡ position n ns = omega (arith, f, i) in rw (← e, lt-ltb k (length ns) h)

  pub position_here : t ≡ true → k < length ns → k + position n (drop k ns) ≡ position n ns → k ≡ position n ns
  position_here y h i =
      let f : position n (drop k ns) ≡ 0 = position_at n ns k h ∙ rw (← q, y) in
      omega (arith, f, i)

pub position_over : (n : List ℕ) (ns : List (List ℕ)) (k : ℕ) → k + position n (drop k ns) ≡ position n ns → length ns ≤ k → k ≡ position n ns
unfolding position
position_over n ns k i h =
    let f : position n (drop k ns) ≡ 0 = rw (drop_of_length-le ns h) in
    omega (arith, f, i)

pub placed_nowhere : (n : List ℕ) (ns : List (List ℕ)) (k : ℕ) → k + position n (drop k ns) ≡ position n ns → length ns ≤ k → None ≡ place_in n ns
unfolding position place_in
placed_nowhere n ns k i h =
    let f : position n (drop k ns) ≡ 0 = rw (drop_of_length-le ns h) in
    rw (le-ltb (position n ns) (length ns) (omega (arith, f, i)))

-- a place that is told, and none
place_told : (p n k : ℕ) (t : Bool) → nat_lt p n ≡ t → cond t (Some p) None ≡ Some k → (k ≡ p) × (k < n)
place_told p n k true e h =
    let f : p ≡ k = ap (λ (o : Option ℕ). unwrap_or o 0) h in (sym f, omega (arith, f, ltb-true p n e))
place_told p n k false e h = absurd (false≢true (ap is_some h))

pub place_is : (n : List ℕ) (ns : List (List ℕ)) (k : ℕ) → place_in n ns ≡ Some k → (k ≡ position n ns) × (k < length ns)
unfolding place_in
place_is n ns k h = place_told (position n ns) (length ns) k _ refl h

no_place : (p n : ℕ) (t : Bool) → nat_lt p n ≡ t → cond t (Some p) None ≡ None → n ≤ p
no_place p n true e h = absurd (true≢false (ap is_some h))
no_place p n false e h = ltb-false p n e

pub place_none : (n : List ℕ) (ns : List (List ℕ)) → place_in n ns ≡ None → length ns ≤ position n ns
unfolding place_in
place_none n ns h = no_place (position n ns) (length ns) _ refl h

-- ---- some number below n

pub some_none : (f : ℕ → Bool) → some f 0 ≡ false
unfolding some
some_none f = refl

pub some_more : (f : ℕ → Bool) (k : ℕ) → some f k ≡ false → f k ≡ false → some f (k + 1) ≡ false
unfolding some
some_more f k h e = rw (add-one, h, e)

some_right : (a b : Bool) → b ≡ true → (a || b) ≡ true
some_right true b e = refl
some_right false b e = e

pub some_found : (f : ℕ → Bool) (k n : ℕ) → f k ≡ true → k < n → true ≡ some f n
unfolding some
some_found f k zero e h = absurd (not-suc-le-zero h)
some_found f k (suc n) e h =
    elim (ℕ_discrete k n) [
      | yes q ↦ sym (some_right (some f n) (f n) (rw (← q) e))
      | no x ↦ rw (← some_found f k n e (omega arith))
    ]

pub some_each : (f : ℕ → Bool) (n : ℕ) → some f n ≡ false → (k : ℕ) → k < n → f k ≡ false
unfolding some
some_each f n h k l = by (f k) refl
  where
    by : (t : Bool) → f k ≡ t → f k ≡ false
    by true e = absurd (true≢false (some_found f k n e l ∙ h))
    by false e = e

-- ---- name k by its places

pub placed_at : (list froms tos : List ℕ) (count : ℕ) → Named list froms tos count → (k : ℕ) → k < count → NamedAt list k (slice_index froms k) (slice_index tos k)
placed_at list froms tos count n k h = n.placed k h

pub part_is : (list : List ℕ) (k from to : ℕ) → NamedAt list k from to → slice_range list from to ≡ slice_index_or (names list) k []
unfolding part
part_is list k from to n = n.name

-- ---- digests

digest_is : (d : ℕ) (t : List ℕ) → digest_from d t ≡ fold digest_more d t
unfolding digest_from
digest_is d [] = refl
digest_is d (b ∷ s) = digest_is (digest_more d b) s

pub digest_starts : (t : List ℕ) → digest_from 0 (drop 0 t) ≡ digest_of t
unfolding digest_of
digest_starts t = digest_is 0 t

pub digest_turn : (t : List ℕ) (i d e : ℕ) → digest_from d (drop i t) ≡ digest_of t → i < length t → e ≡ digest_more d (slice_index t i)
    → digest_from e (drop (i + 1) t) ≡ digest_of t
unfolding digest_from
digest_turn t i d e k h q = rw (add-one, q) (rw (drop-cons t i 0 h) at k)

pub digest_end : (t : List ℕ) (i d : ℕ) → digest_from d (drop i t) ≡ digest_of t → length t ≤ i → d ≡ digest_of t
unfolding digest_from
digest_end t i d k h = rw (drop_of_length-le t h) at k

pub digested_none : (list digests : List ℕ) → Digested list digests 0
digested_none list digests j h = absurd (not-suc-le-zero h)

pub digested_more : (list digests : List ℕ) (k d : ℕ) (m : List ℕ) → Digested list digests k → k < length digests → m ≡ slice_index_or (names list) k []
    → d ≡ digest_of m
    → Digested list (slice_set digests k d) (k + 1)
digested_more list digests k d m p a e q j h =
    elim (ℕ_discrete j k) [
      | yes i ↦ rw (i, get_or-set_same digests k d 0 a) (q ∙ ap digest_of e)
      | no x ↦ rw (get_or-set_other digests k j d 0 x) (p j (omega arith))
    ]

pub indexed_all : (list froms tos digests : List ℕ) (k count : ℕ) → Named list froms tos count → count ≤ length digests → Digested list digests k
    → k ≤ count
    → count ≤ k
    → Indexed list froms tos digests count
indexed_all list froms tos digests k count n r d a b =
    let e : k ≡ count = omega arith in record { named = n; room = r; digested = rw e at d }

-- what is written
pub digests_none : (list digests : List ℕ) → digests ≡ digests_up list 0 digests
unfolding digests_up filled
digests_none list digests = refl

pub digests_more : (list digests before : List ℕ) (k d : ℕ) (m : List ℕ) → digests ≡ digests_up list k before → m ≡ slice_index_or (names list) k []
    → d ≡ digest_of m
    → slice_set digests k d ≡ digests_up list (k + 1) before
unfolding digests_up filled
digests_more list digests before k d m p e q = rw (add-one, ← e, ← q) (ap (λ (l : List ℕ). set l k d) p)

pub digests_all : (list digests before : List ℕ) (k count : ℕ) → digests ≡ digests_up list k before → k ≡ count → digests ≡ digests_up list count before
digests_all list digests before k count p e = p ∙ ap (λ (n : ℕ). digests_up list n before) e

-- names whose digests differ are not the same
pub digests_differ : (list digests : List ℕ) (count k d : ℕ) (n : List ℕ) → Digested list digests count → k < count → d ≡ digest_of n
    → (slice_index digests k ≢ d)
    → false ≡ equal (slice_index_or (names list) k []) n
digests_differ list digests count k d n x h q u = by (equal (slice_index_or (names list) k []) n) refl
  where
    by : (t : Bool) → equal (slice_index_or (names list) k []) n ≡ t → false ≡ equal (slice_index_or (names list) k []) n
    by true e = absurd (u (x k h ∙ ap digest_of (equal_same (slice_index_or (names list) k []) n e) ∙ sym q))
    by false e = sym e

-- ---- a name that stands earlier

-- a name stands at its place, or earlier
own_step : (n m : List ℕ) (ms : List (List ℕ)) (t : Bool) (k : ℕ) → equal m n ≡ t → (slice_index_or ms k [] ≡ n → position n ms ≤ k)
    → slice_index_or ms k [] ≡ n
    → cond t 0 (suc (position n ms)) ≤ suc k
own_step n m ms true k q again e = omega arith
own_step n m ms false k q again e = let i = again e in omega arith

own_place : (n : List ℕ) (ns : List (List ℕ)) (k : ℕ) → k < length ns → slice_index_or ns k [] ≡ n → position n ns ≤ k
unfolding position
own_place n [] k h e = absurd (not-suc-le-zero h)
own_place n (m ∷ ms) zero h e = let q : equal m n ≡ true = rw e (equal_self n) in rw q (omega arith)
own_place n (m ∷ ms) (suc k) h e = own_step n m ms (equal m n) k refl (own_place n ms k (omega arith)) e

module _ (ns : List (List ℕ)) (k : ℕ) (m : List ℕ) (p : Option ℕ) (e : m ≡ slice_index_or ns k []) (q : p ≡ place_in m ns) (l : k < length ns) where
  placed : p ≡ Some (position m ns)
  unfolding place_in
  placed = let h = own_place m ns k l (sym e) in q ∙ rw (lt-ltb (position m ns) (length ns) (omega arith))

  pub again_is : (p ≢ Some k) → is_again ns k ≡ true
  unfolding is_again
  again_is x =
      let h = own_place m ns k l (sym e) in
      let y : (position m ns ≡ k → ⊥) = λ z. x (placed ∙ ap Some z) in rw (← e) (lt-ltb (position m ns) k (omega (arith, y)))

  pub again_not : p ≡ Some k → is_again ns k ≡ false
  unfolding is_again
  again_not h =
      let z : position m ns ≡ k = ap (λ (o : Option ℕ). unwrap_or o 0) (sym placed ∙ h) in rw (← e) (le-ltb (position m ns) k (omega (arith, z)))

-- the same by the place itself
module _ (ns : List (List ℕ)) (k p : ℕ) (m : List ℕ) (e : m ≡ slice_index_or ns k []) (q : p ≡ position m ns) where
  pub again_before : p < k → is_again ns k ≡ true
  unfolding is_again
  again_before h = rw (← e, ← q) (lt-ltb p k h)

  pub again_never : k ≤ p → is_again ns k ≡ false
  unfolding is_again
  again_never h = rw (← e, ← q) (le-ltb p k h)

pub some_end : (f : ℕ → Bool) (k n : ℕ) → some f k ≡ false → k ≡ n → false ≡ some f n
some_end f k n h e = sym h ∙ ap (some f) e
