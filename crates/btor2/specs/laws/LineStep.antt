-- A line with tokens taken: each refusal, and the arrays after it.
use Rattle.std.specs.Prelude.{◌≡◌, Bool, true, false, not, ◌||◌, List, [], ◌∷◌, ◌++◌, ℕ, zero, suc, ◌+◌, ◌*◌, ◌≤◌, ◌<◌, ltb, leb, get_or, take, set, Result, Ok, Err}
use Rattle.std.proofs.Math.Path.{refl, ap}
use Rattle.std.proofs.Common.{sym, ◌∙◌, arith, length-append, mod-eq_of_lt, ⊎_elim, get_or-take, get_or-append-add, eq-eqb, ltb-false, leb-false}
use Rattle.std.proofs.lemmas.Bool.{false≢true}
use Rattle.std.proofs.Math.ListN.{length, length-set, get_or-append}
use Rattle.words.specs.laws.Bits.{lt_or_ge}
use Rattle.std.proofs.lemmas.List.Edits.{sets}
use Rattle.std.proofs.Math.Seq.{length-sets}
use Rattle.problem.specs.declared.layout.Node.{Node}
use Rattle.lines.specs.declared.table.Makes.{Makes}
use Rattle.lines.specs.declared.table.Makes.TheVariants.{Sort, Input, Value, Root}
use Rattle.spelling.specs.declared.line.Line.{Line}
use Rattle.lines.specs.declared.fault.Fault.{Fault}
use Rattle.lines.specs.declared.fault.Fault.TheVariants.{Id, Width, Room}
use Rattle.lines.specs.Faults.{fault_number}
use Rattle.lines.specs.laws.Faults.{fault_not_none}
use Rattle.btor2.specs.declared.take.Counts.{Counts}
use Rattle.lines.specs.Lines.{Token, token, tokens}
use Rattle.lines.specs.Words.{number_of, word_of, shape}
use Rattle.lines.specs.Format.{format_fault, Item, item_of, item}
use Rattle.btor2.specs.Conversion.{State, width_in, any_unknown, sort_unknown, new_nodes, node_for, naming, added, after, too_much, id_fault, misfit, line_fault, after_line}
use Rattle.spelling.specs.Bytes.{all_nodes, node_bytes, kind_bytes, little_endian}
use Rattle.lines.specs.inner.Told.{id_of, is_alias}
use Rattle.btor2.specs.inner.Kept.{Rising, Named, Seen}
use Rattle.spelling.specs.inner.Spelled.{count_read, new_read, fits_read}
use Rattle.btor2.specs.inner.Read.{Read}
use Rattle.btor2.specs.inner.Taking.{unknown_read, overfull, roots_after, adds_name, NamedIf, RootIf, standing, roots_with, Placed, full, put, Settled, Fits, Kept, Stepped, next, fault}
use Rattle.btor2.specs.inner.Taking as taking
use Rattle.btor2.specs.laws.Reached.{Reached, more}
use Rattle.btor2.specs.laws.Passed.{Formed, formed, or_both}
use Rattle.btor2.specs.laws.Alias.{alias_empty}
use Rattle.btor2.specs.laws.Sound.{AllWide, Sound, reached_sound, Role, makes_sort, makes_input, makes_a_value, makes_a_root, role}
use Rattle.spelling.specs.laws.Spell.{new_length}
use Rattle.btor2.specs.laws.Read.{id_is, unknown_is, width_most, misfit_is, new_is, standing_is}
use Rattle.spelling.specs.laws.Written.{node_long}
use Rattle.btor2.specs.laws.Place.{room_left}
use Rattle.btor2.specs.laws.NameIf.{either_room}
use Rattle.btor2.specs.laws.Step.{line_format, line_unknown, line_misfit, line_full, line_passes, added_last, added_nodes, added_roots, roots_kept, bytes_kept, overfull_is, parts, names_same, names_also, names_more, rising_more, under_more}

-- ---- the widths of nodes, read off their bytes

width_byte : (m : Node) → m.width ≤ 64 → get_or (node_bytes m) 1 0 ≡ m.width
unfolding node_bytes kind_bytes little_endian
width_byte m h = mod-eq_of_lt (omega arith)

node_width : (ns : List Node) (k : ℕ) → AllWide ns → k < length ns → get_or (all_nodes ns) (24 * k + 1) 0 ≡ width_in ns k
unfolding AllWide all_nodes width_in
node_width [] k a h = absurd (omega arith)
node_width (m ∷ ns) zero a h =
    get_or-append (node_bytes m) (all_nodes ns) 0 1 (omega (arith, node_long m)) ∙ width_byte m a.0
node_width (m ∷ ns) (suc k) a h =
    let z : 24 * suc k + 1 ≡ length (node_bytes m) + (24 * k + 1) = omega (arith, node_long m) in
    rw z (get_or-append-add (node_bytes m) (all_nodes ns) (24 * k + 1) 0 ∙ node_width ns k a.1 (omega arith))

pub seen : {room : ℕ} {σ : State} {ls : List (List ℕ)} {n : Counts} {bytes ids places rooted : List ℕ} → Kept room σ ls n bytes ids places rooted
    → Seen σ ls n.names bytes ids places
seen {room} {σ} {ls} {n} {bytes} K =
    let S = reached_sound K.reached in
    record {
      named = K.named;
      sorted = S.sorted;
      widths = λ k h. sym (get_or-take (24 * n.nodes) bytes (24 * k + 1) 0 (let e = K.nodes_are in omega arith)) ∙ rw K.written (node_width σ.nodes k S.nodes_wide h);
    }

-- ---- small laws

after_last : (σ : State) (i : Item) → (after σ i).last ≡ i.id
unfolding after
after_last σ i = added_last σ i i.makes

item_makes : (ts : List Token) → (shape (word_of (number_of (token ts 1)))).makes ≡ (item ts).makes
unfolding item item_of
item_makes ts = refl

rooted_then : (a b v : ℕ) (rooted r : List ℕ) → RootIf a b v rooted r → length r ≡ length rooted
rooted_then a b v rooted r R =
    ⊎_elim (λ (h : a < b). ap length (R.added h) ∙ length-set rooted a v) (λ (h : b ≤ a). ap length (R.kept h)) (lt_or_ge a b)

-- the names that code keeps after a line with the id that it had
pub record NamesThen (τ : State) (ls : List (List ℕ)) (id nodes : ℕ) (i p : List ℕ) (names : ℕ) : Type 0 where
  pub named : Named τ ls names i p
  pub rising : Rising i names
  pub under : (k : ℕ) → k < names → get_or i k 0 ≤ id
  pub few : names ≤ nodes + 1024
  pub ids_long : length i ≡ 2048
  pub places_long : length p ≡ 2048

-- ---- refusals

module _ {room : ℕ} {σ : State} {ls : List (List ℕ)} {n : Counts} {bytes ids places rooted : List ℕ} (K : Kept room σ ls n bytes ids places rooted)
    (l : List ℕ) (t : Token) (q : t ≡ token (tokens l) 0) (z : length t ≡ 0 → ⊥) (m : ℕ) (e : m ≡ format_fault (tokens l)) where
  pub step_format : (f : Fault) → fault_number f ≡ m → {b i p r : List ℕ} → Stepped room σ ls l b i p r (Err f)
  step_format f h = fault (line_format room σ l t q z m e (λ y. fault_not_none f (h ∙ y)) ∙ sym h)

  module _ (h : m ≡ 0) (x : Line) (R : Read σ (tokens l) x) where
    abbrev S : Sound ls σ
    S = reached_sound K.reached

    form : Formed (tokens l)
    form = formed (tokens l) (sym e ∙ h)

    id_fault_lem : id_fault σ (item (tokens l)) ≡ unknown_read x n.last
    id_fault_lem = sym (unknown_is S K.named (tokens l) form x R n.last K.last_is)

    step_unknown : unknown_read x n.last ≡ true → {b i p r : List ℕ} → Stepped room σ ls l b i p r (Err Id)
    step_unknown y = fault (line_unknown room σ l t q z m e h (id_fault_lem ∙ y))

    module _ (u : unknown_read x n.last ≡ false) where
      misfits : misfit σ (item (tokens l)) ≡ not (fits_read x)
      misfits = misfit_is S K.named (tokens l) form x R (id_fault_lem ∙ u)

      step_misfit : fits_read x ≡ false → {b i p r : List ℕ} → Stepped room σ ls l b i p r (Err Width)
      step_misfit y = fault (line_misfit room σ l t q z m e h (id_fault_lem ∙ u) (misfits ∙ rw y))

      -- ---- what is added

      module _ (y : fits_read x ≡ true) where
        no_unknown : id_fault σ (item (tokens l)) ≡ false
        no_unknown = id_fault_lem ∙ u

        nodes_new : new_nodes σ (item (tokens l)) ≡ new_read x n.nodes
        nodes_new = rw K.nodes_are (new_is S K.named (tokens l) form x R no_unknown y)

        stands : node_for σ (item (tokens l)) ≡ standing x n
        stands = rw K.nodes_are (standing_is S K.named (tokens l) form x R no_unknown y)

        count_new : length (new_nodes σ (item (tokens l))) ≡ count_read x
        count_new = rw nodes_new (new_length x n.nodes)

        makes_are : (shape (word_of x.word)).makes ≡ (item (tokens l)).makes
        unfolding item item_of
        makes_are = rw R.word_is

        nodes_then : (after σ (item (tokens l))).nodes ≡ σ.nodes ++ new_nodes σ (item (tokens l))
        unfolding after item item_of
        nodes_then = added_nodes σ (tokens l) (number_of (token (tokens l) 1)) _ (role (number_of (token (tokens l) 1))) refl

        nodes_count : length (after σ (item (tokens l))).nodes ≡ n.nodes + count_read x
        nodes_count =
            rw nodes_then (length-append σ.nodes (new_nodes σ (item (tokens l))) ∙ rw (count_new, K.nodes_are))

        roots_count : length (after σ (item (tokens l))).roots ≡ roots_with x n rooted
        unfolding after
        roots_count =
            added_roots σ (item (tokens l)) (item (tokens l)).makes
            ∙ rw (stands, ← K.roots_are, ← K.held, ← makes_are)

        fullness : too_much room (after σ (item (tokens l))) ≡ overfull room (n.nodes + count_read x) (roots_with x n rooted)
        fullness = overfull_is room (after σ (item (tokens l))) ∙ rw (nodes_count, roots_count)

        step_full : overfull room (n.nodes + count_read x) (roots_with x n rooted) ≡ true → {b i p r : List ℕ} → Stepped room σ ls l b i p r (Err Room)
        step_full o =
            fault (line_full room σ l t q z m e h no_unknown (misfits ∙ rw y) (fullness ∙ o))

        module _ (o : overfull room (n.nodes + count_read x) (roots_with x n rooted) ≡ false) where
          passed : line_fault room σ (tokens l) ≡ 0
          passed = line_passes room σ l t q z m e h no_unknown (misfits ∙ rw y) (fullness ∙ o)

          abbrev τ : State
          τ = after σ (item (tokens l))

          then_is : after_line σ (tokens l) ≡ τ
          then_is = (parts room σ l t q z).1

          reached_then : Reached room (ls ++ l ∷ []) (after_line σ (tokens l))
          reached_then = more l K.reached passed

          sound_then : Sound (ls ++ l ∷ []) τ
          sound_then = rw then_is at (reached_sound reached_then)

          left : (n.nodes + count_read x ≤ 1024) × (roots_with x n rooted ≤ 256) × (9 + 24 * (n.nodes + count_read x) + 2 * roots_with x n rooted ≤ room)
          left = room_left room (n.nodes + count_read x) (roots_with x n rooted) _ refl o

          id_item : x.id ≡ (item (tokens l)).id
          id_item = id_is S K.named (tokens l) form x R

          id_of_lem : x.id ≡ id_of (tokens l)
          unfolding item item_of id_of
          id_of_lem = id_item

          above : σ.last < id_of (tokens l)
          unfolding id_fault
          above =
              rw (← id_of_lem, id_item)
              (leb-false (item (tokens l)).id σ.last
              (or_both (leb (item (tokens l)).id σ.last) (sort_unknown (item (tokens l)).makes (item (tokens l)).sort σ.sorts)
              (or_both (leb (item (tokens l)).id σ.last || sort_unknown (item (tokens l)).makes (item (tokens l)).sort σ.sorts) (any_unknown (item (tokens l)).refs σ.named) no_unknown).0
              ).0)

          -- an input's or a value's line that adds no node is another name
          empty_alias : (k : ℕ) → k ≡ number_of (token (tokens l) 1) → 0 < k → k < 27 → ltb 0 (count_read x) ≡ false → is_alias (tokens l) ≡ true
          empty_alias k ek lo hi c =
              let w : count_read x ≤ 0 = ltb-false 0 (count_read x) c in
              let v : length (new_nodes σ (item (tokens l))) ≡ 0 = omega (arith, count_new) in
              sym (alias_empty σ (tokens l) (rw (← ek) lo) (rw (← ek) hi)) ∙ eq-eqb _ 0 v

          -- the names that code then keeps
          names_kept : Named τ (ls ++ l ∷ []) n.names ids places → NamesThen τ (ls ++ l ∷ []) x.id (n.nodes + count_read x) ids places n.names
          names_kept N =
              record {
                named = N;
                rising = K.fits.rising;
                under = λ k h. let v = K.under k h in let w = K.last_is in omega (arith, above, id_of_lem);
                few = let v = K.fits.names_few in omega arith;
                ids_long = K.fits.ids_long;
                places_long = K.fits.places_long;
              }

          names_stay : (mk : Makes) → mk ≡ (item (tokens l)).makes → (added σ (item (tokens l)) mk).named ≡ σ.named
              → NamesThen τ (ls ++ l ∷ []) x.id (n.nodes + count_read x) ids places n.names
          unfolding after
          names_stay mk em qn =
              names_kept (names_same K.named S τ l (tokens l) refl above sound_then (ap (λ (k : Makes). (added σ (item (tokens l)) k).named) (sym em) ∙ qn))

          grown : (mk : Makes) → mk ≡ (item (tokens l)).makes
              → (added σ (item (tokens l)) mk).named ≡ σ.named ++ ((item (tokens l)).id, node_for σ (item (tokens l))) ∷ []
              → τ.named ≡ σ.named ++ (id_of (tokens l), node_for σ (item (tokens l))) ∷ []
          unfolding after
          grown mk em qn =
              ap (λ (k : Makes). (added σ (item (tokens l)) k).named) (sym em) ∙ qn
              ∙ ap (λ (x₀ : ℕ). σ.named ++ (x₀, node_for σ (item (tokens l))) ∷ []) (sym id_item ∙ id_of_lem)

          names_another : (mk : Makes) → mk ≡ (item (tokens l)).makes
              → (added σ (item (tokens l)) mk).named ≡ σ.named ++ ((item (tokens l)).id, node_for σ (item (tokens l))) ∷ [] → is_alias (tokens l) ≡ true
              → NamesThen τ (ls ++ l ∷ []) x.id (n.nodes + count_read x) ids places n.names
          names_another mk em qn a =
              names_kept (names_also K.named S τ l (tokens l) refl above sound_then (node_for σ (item (tokens l))) (grown mk em qn) a)

          names_new : (mk : Makes) → mk ≡ (item (tokens l)).makes
              → (added σ (item (tokens l)) mk).named ≡ σ.named ++ ((item (tokens l)).id, node_for σ (item (tokens l))) ∷ [] → (ltb 0 (count_read x) || ltb n.names 1024) ≡ true
              → NamesThen τ (ls ++ l ∷ []) x.id (n.nodes + count_read x) (set ids n.names x.id) (set places n.names (standing x n)) (n.names + 1)
          unfolding after
          names_new mk em qn c =
              let v = either_room (count_read x) n.names n.nodes c K.fits.names_few left.0 in
              let il = K.fits.ids_long in
              let pl = K.fits.places_long in
              let li : n.names < length ids = omega (arith, v.0) in
              let lp : n.names < length places = omega (arith, v.0) in
              let la = K.last_is in
              record {
                named = rw (stands, ← id_of_lem) at (names_more K.named S τ l (tokens l) refl above sound_then (node_for σ (item (tokens l))) (grown mk em qn) li lp);
                rising = rising_more ids n.names x.id n.last K.fits.rising li K.under (omega (arith, above, id_of_lem));
                under = under_more ids n.names x.id n.last li K.under (omega (arith, above, id_of_lem));
                few = v.1;
                ids_long = length-set ids n.names x.id ∙ il;
                places_long = length-set places n.names (standing x n) ∙ pl;
              }

          names_then : (k : ℕ) (mk : Makes) → Role k mk → k ≡ number_of (token (tokens l) 1) → mk ≡ (item (tokens l)).makes
              → (c : Bool) → adds_name mk (count_read x) n.names ≡ c → {i p : List ℕ} {names : ℕ} → NamedIf c ids places n.names x.id (standing x n) i p names
              → NamesThen τ (ls ++ l ∷ []) x.id (n.nodes + count_read x) i p names
          unfolding added naming
          names_then k mk makes_sort ek em c ec taking.kept = names_stay Sort em refl
          names_then k mk makes_sort ek em c ec taking.added = absurd (false≢true ec)
          names_then k mk makes_input ek em c ec taking.kept = names_another Input em refl (empty_alias 1 ek (omega arith) (omega arith) (or_both (ltb 0 (count_read x)) (ltb n.names 1024) ec).0)
          names_then k mk makes_input ek em c ec taking.added = names_new Input em refl ec
          names_then k mk (makes_a_value lo hi) ek em c ec taking.kept = names_another Value em refl (empty_alias k ek (omega arith) hi (or_both (ltb 0 (count_read x)) (ltb n.names 1024) ec).0)
          names_then k mk (makes_a_value lo hi) ek em c ec taking.added = names_new Value em refl ec
          names_then k mk (makes_a_root lo) ek em c ec taking.kept = names_stay Root em refl
          names_then k mk (makes_a_root lo) ek em c ec taking.added = absurd (false≢true ec)

          roots_then : {r : List ℕ} → RootIf n.roots (roots_with x n rooted) (standing x n) rooted r → take (roots_with x n rooted) r ≡ τ.roots
          unfolding after
          roots_then {r} Rt =
              let e₁ : roots_with x n rooted ≡ roots_after (item (tokens l)).makes σ.roots n.roots (node_for σ (item (tokens l))) =
              rw (makes_are, K.held, stands) in
              rw e₁
              (roots_kept (item (tokens l)).makes σ (item (tokens l)) n.roots rooted r K.roots_are K.held
              (rw (← e₁) (let v = K.fits.rooted_long in omega (arith, left))) (rw (e₁, ← stands) at Rt))

          -- everything
          kept_then : {b i p r : List ℕ} {names : ℕ}
              → (x.width ≤ 64 → b ≡ sets bytes (24 * n.nodes) (all_nodes (new_read x n.nodes)))
              → NamedIf (adds_name (shape (word_of x.word)).makes (count_read x) n.names) ids places n.names x.id (standing x n) i p names
              → RootIf n.roots (roots_with x n rooted) (standing x n) rooted r
              → Kept room (after_line σ (tokens l)) (ls ++ l ∷ []) (record { last = x.id; nodes = n.nodes + count_read x; roots = roots_with x n rooted; names = names }) b i p r
          kept_then {b} {i} {p} {r} {names} bw Nm Rt =
              let T = names_then _ _ (role (number_of (token (tokens l) 1))) refl (item_makes (tokens l)) _ refl (rw (makes_are, ← item_makes (tokens l)) at Nm) in
              let be = bw (width_most S K.named (tokens l) form x R no_unknown) in
              let bl = K.fits.bytes_long in
              let rl = K.fits.rooted_long in
              record {
                reached = reached_then;
                last_is = rw then_is (id_item ∙ sym (after_last σ (item (tokens l))));
                nodes_are = rw then_is (sym nodes_count);
                roots_are = rw then_is (sym roots_count);
                written =
                    rw (then_is, nodes_then, nodes_new)
                    (bytes_kept n.nodes (count_read x) bytes b σ.nodes (new_read x n.nodes) K.written (new_length x n.nodes) (omega (arith, left)) be);
                held = rw then_is (roots_then Rt);
                named = rw then_is T.named;
                under = T.under;
                fits =
                    record {
                      bytes_long = ap length be ∙ simp length-sets bl;
                      ids_long = T.ids_long;
                      places_long = T.places_long;
                      rooted_long = rooted_then n.roots (roots_with x n rooted) (standing x n) rooted r Rt ∙ rl;
                      nodes_few = left.0;
                      roots_few = left.1;
                      names_few = T.few;
                      rising = T.rising;
                    };
              }

        step_put : {b i p r : List ℕ} {names : ℕ}
            → overfull room (n.nodes + count_read x) (roots_with x n rooted) ≡ false
            → (x.width ≤ 64 → b ≡ sets bytes (24 * n.nodes) (all_nodes (new_read x n.nodes)))
            → NamedIf (adds_name (shape (word_of x.word)).makes (count_read x) n.names) ids places n.names x.id (standing x n) i p names
            → RootIf n.roots (roots_with x n rooted) (standing x n) rooted r
            → Stepped room σ ls l b i p r (Ok (record { last = x.id; nodes = n.nodes + count_read x; roots = roots_with x n rooted; names = names }))
        step_put o bw Nm Rt = next (passed o) (kept_then o bw Nm Rt)

        step_placed : {b i p r : List ℕ} {s : Result Counts Fault} → Placed x n room bytes ids places rooted b i p r s → Stepped room σ ls l b i p r s
        step_placed (full o) = step_full o
        step_placed (put o bw Nm Rt) = step_put o bw Nm Rt

    pub step_settled : {b i p r : List ℕ} {s : Result Counts Fault} → Settled x n room bytes ids places rooted b i p r s → Stepped room σ ls l b i p r s
    step_settled (taking.unknown e) = step_unknown e
    step_settled (taking.misfits u e) = step_misfit u e
    step_settled (taking.placed u y P) = step_placed u y P
