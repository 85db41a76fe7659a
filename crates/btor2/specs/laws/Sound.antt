-- What holds of every state that lines lead to: ids are those of the lines, sorts are told by the text, other names name what lower ids do.
use Rattle.std.specs.Prelude.{◌≡◌, Bool, true, false, cond, not, ◌&&◌, ◌||◌, List, [], ◌∷◌, ◌++◌, ℕ, zero, suc, ◌+◌, ◌-◌, ◌^◌, ◌≤◌, ◌<◌, eqb, ltb, leb, length}
use Rattle.std.proofs.Math.Path.{refl}
use Rattle.std.proofs.Common.{sym, ◌∙◌, arith, pow_pos}
use Rattle.std.proofs.lemmas.Bool.{false≢true}
use Rattle.std.proofs.Math.ListN.{length-append}
use borrow.Author.Tests.{ne_eqb, eqb-true, eqb-false, leb-true, lt-ltb, ltb-true, ltb-false}
use Rattle.texts.specs.Runs.{ascii, equal, split}
use Rattle.texts.specs.laws.Runs.{both_true}
use Rattle.texts.specs.Numbers.{value_from, value_in}
use Rattle.lines.specs.declared.table.Makes.{Makes}
use Rattle.lines.specs.declared.table.Makes.TheVariants.{Sort, Input, Value, Root}
use Rattle.lines.specs.Lines.{Token, token, kept, tokens}
use Rattle.problem.specs.declared.layout.Node.{Node}
use Rattle.lines.specs.Words.{Word, sort, input, zeros, one, ones, const, constd, consth, inv, conj, disj, xor, add, sub, mul, sll, srl, sra, eq, neq, ult, slt, ite, concat, slice, uext, sext, constraint, other, names, index_of, number_of, word_of, shape}
use Rattle.lines.specs.Format.{Ref, Constant, Item, item_of, item}
use Rattle.spelling.specs.Nodes.{fits, own, operator, constant_node, invert, nots}
use Rattle.btor2.specs.Conversion.{State, start, known, at, width_in, operand_of, operands, new_nodes, node_for, naming, added, after, line_fault, after_line}
use Rattle.lines.specs.inner.Told.{id_of, find_line, narrow, width_told, is_alias}
use Rattle.btor2.specs.inner.Kept.{Also, Sorted}
use Rattle.lines.specs.laws.Word.{makes_value, makes_root}
use Rattle.btor2.specs.laws.Reached.{Reached, begin, more}
use Rattle.btor2.specs.laws.Entry.{known_snoc_new, known_snoc_old, known_snoc_other, at_snoc_new, at_snoc_old, at_snoc_other, AllBelow, below_mono, below_snoc, find_other, find_new, find_none}
use Rattle.btor2.specs.laws.Passed.{Passes, passes}
use Rattle.btor2.specs.laws.Alias.{alias_empty, another}

-- all nodes are at most 64 bits wide
unfoldable pub AllWide : List Node → Type 0
AllWide [] = Unit {0}
AllWide (n ∷ ns) = (n.width ≤ 64) × AllWide ns

pub record Sound (ls : List (List ℕ)) (σ : State) : Type 0 where
  pub lines_are_below : AllBelow σ.last ls
  pub last_small : σ.last < 2 ^ 64
  pub names_below : (id : ℕ) → known id σ.named ≡ true → id ≤ σ.last
  pub names_some : (id : ℕ) → known id σ.named ≡ true → 0 < id
  pub names_inside : (id : ℕ) → known id σ.named ≡ true → at id σ.named < length σ.nodes
  pub sorted : Sorted σ ls
  pub aliases :
      (id : ℕ) → 0 < id → is_alias (tokens (find_line id ls)) ≡ true → Also σ id (value_in 10 (token (tokens (find_line id ls)) 3))
  pub nodes_few : length σ.nodes ≤ 1024
  pub nodes_wide : AllWide σ.nodes
  pub roots_few : length σ.roots ≤ 256

-- ---- lines without tokens

no_id : id_of [] ≡ 0
unfolding id_of value_in value_from
no_id = refl

pub no_width : width_told [] ≡ 0
unfolding width_told number_of index_of names equal ascii
no_width = refl

no_alias : is_alias [] ≡ false
unfolding is_alias number_of index_of names equal ascii
no_alias = refl

pub find_blank : (x : ℕ) (ls : List (List ℕ)) (l : List ℕ) → tokens l ≡ [] → 0 < x → find_line x (ls ++ l ∷ []) ≡ find_line x ls
find_blank x ls l e h = find_other x ls l (λ z. let y : 0 ≡ x = sym no_id ∙ rw e at z in omega arith)

-- the same state after such a line
blank_sound : (ls : List (List ℕ)) (l : List ℕ) (σ : State) → tokens l ≡ [] → Sound ls σ → Sound (ls ++ l ∷ []) σ
blank_sound ls l σ e S =
    record {
      lines_are_below = below_snoc σ.last ls l S.lines_are_below (rw (e, no_id) (omega arith));
      last_small = S.last_small;
      names_below = S.names_below;
      names_some = S.names_some;
      names_inside = S.names_inside;
      sorted =
          record {
            told = λ x h. S.sorted.told x h ∙ rw (find_blank x ls l e h);
            none = S.sorted.none;
            wide = S.sorted.wide;
            most = S.sorted.most;
            defined = S.sorted.defined;
          };
      aliases = λ x h. rw (find_blank x ls l e h) (S.aliases x h);
      nodes_few = S.nodes_few;
      nodes_wide = S.nodes_wide;
      roots_few = S.roots_few;
    }

-- ---- lines with tokens

-- what a line makes, by its keyword's number
pub data Role : ℕ → Makes → Type 0 where
  makes_sort : Role 0 Sort
  makes_input : Role 1 Input
  makes_a_value : {k : ℕ} → 1 < k → k < 27 → Role k Value
  makes_a_root : {k : ℕ} → 26 < k → Role k Root

pub role : (k : ℕ) → Role k (shape (word_of k)).makes
unfolding shape
role k = by (eqb k 0) (eqb k 1) (ltb k 27) refl refl refl
  where
    by : (a b c : Bool) → eqb k 0 ≡ a → eqb k 1 ≡ b → ltb k 27 ≡ c → Role k (shape (word_of k)).makes
    by true b c e f g = rw (eqb-true k 0 e) makes_sort
    by false true c e f g = rw (eqb-true k 1 f) makes_input
    by false false true e f g =
        rw (← makes_value k (eqb-false k 0 e) (eqb-false k 1 f) (ltb-true k 27 g))
        (makes_a_value (over k (eqb-false k 0 e) (eqb-false k 1 f)) (ltb-true k 27 g))
      where
        over : (x : ℕ) → (x ≡ 0 → ⊥) → (x ≡ 1 → ⊥) → 1 < x
        over x p q = omega arith
    by false false false e f g = rw (← makes_root k (ltb-false k 27 g)) (makes_a_root (ltb-false k 27 g))

-- the last of a line's nodes
last_node : (σ : State) (ts : List Token) → eqb (length (new_nodes σ (item ts))) 0 ≡ false
    → node_for σ (item ts) < length (σ.nodes ++ new_nodes σ (item ts))
unfolding node_for
last_node σ ts z =
    let n : length (new_nodes σ (item ts)) ≡ 0 → ⊥ = eqb-false _ 0 z in
    rw (z, length-append σ.nodes (new_nodes σ (item ts))) (before (length σ.nodes) (length (new_nodes σ (item ts))) n)
  where
    before : (a b : ℕ) → (b ≡ 0 → ⊥) → a + b - 1 < a + b
    before a b n = omega arith

-- a sort's width is 1 to 64, and its line tells it
sort_fits : (σ : State) (ts : List Token) → number_of (token ts 1) ≡ 0 → (w wa wb wc : ℕ)
    → fits (item ts).word w wa wb wc (item ts).first (item ts).second (item ts).constant ≡ true
    → (1 ≤ (item ts).first) × ((item ts).first ≤ 64) × (width_told ts ≡ (item ts).first)
unfolding item item_of shape fits width_told narrow
sort_fits σ ts e w wa wb wc f =
    let g : (leb 1 (value_in 10 (token ts 3)) && leb (value_in 10 (token ts 3)) 64) ≡ true = rw e at f in
    let p = both_true _ _ g in
    let a : 1 ≤ value_in 10 (token ts 3) = leb-true 1 _ p.0 in
    let b : value_in 10 (token ts 3) ≤ 64 = leb-true _ 64 p.1 in
    rw e (a, b, rw (lt-ltb (value_in 10 (token ts 3)) 65 (omega arith)))

no_line : (x : ℕ) → tokens (find_line x []) ≡ []
unfolding find_line tokens kept split
no_line x = refl

-- the state after a line, in parts; T is what is known of the sorts and names that it adds
module _ {room : ℕ} {ls : List (List ℕ)} {σ : State} (l : List ℕ) (ts : List Token) (e : tokens l ≡ ts) (S : Sound ls σ) (P : Passes room σ ts)
    (j : (item ts).id ≡ id_of ts) where
  id_over : σ.last < id_of ts
  id_over = rw (← j) P.increasing

  found : find_line (id_of ts) (ls ++ l ∷ []) ≡ l
  found = find_new σ.last (id_of ts) ls l S.lines_are_below id_over (rw e)

  not_found : find_line (id_of ts) ls ≡ []
  not_found = find_none σ.last (id_of ts) ls S.lines_are_below id_over

  kept_line : (x : ℕ) → (id_of ts ≡ x → ⊥) → find_line x (ls ++ l ∷ []) ≡ find_line x ls
  kept_line x n = find_other x ls l (rw e n)

  all_are_below : AllBelow (id_of ts) (ls ++ l ∷ [])
  all_are_below = below_snoc (id_of ts) ls l (below_mono σ.last (id_of ts) ls (omega (arith, id_over)) S.lines_are_below) (rw e (omega arith))

  no_tokens : tokens (find_line (id_of ts) ls) ≡ []
  unfolding tokens kept split
  no_tokens = rw not_found

  -- the sorts so far do not know the new id
  at_none : at (id_of ts) σ.sorts ≡ 0
  at_none = S.sorted.told (id_of ts) (omega (arith, id_over)) ∙ rw no_tokens no_width

  pub unknown_sort : known (id_of ts) σ.sorts ≡ false
  unknown_sort = S.sorted.defined (id_of ts) ∙ rw at_none

  pub name_unknown : known (id_of ts) σ.named ≡ false
  name_unknown = by (known (id_of ts) σ.named) refl
    where
      by : (b : Bool) → known (id_of ts) σ.named ≡ b → b ≡ false
      by true q = absurd (let h = S.names_below (id_of ts) q in omega (arith, id_over))
      by false q = refl

  -- sorts that stay as they were, and a sort that is added
  sorts_stay : (τ : State) → τ.sorts ≡ σ.sorts → width_told ts ≡ 0 → Sorted τ (ls ++ l ∷ [])
  sorts_stay τ q z =
      record {
        told = λ x h. rw q (by x h (eqb (id_of ts) x) refl);
        none = rw q S.sorted.none;
        wide = rw q S.sorted.wide;
        most = rw q S.sorted.most;
        defined = rw q S.sorted.defined;
      }
    where
      by : (x : ℕ) → 0 < x → (b : Bool) → eqb (id_of ts) x ≡ b → at x σ.sorts ≡ width_told (tokens (find_line x (ls ++ l ∷ [])))
      by x h true f =
          let g : id_of ts ≡ x = eqb-true (id_of ts) x f in
          rw (← g, found, e, z) at_none
      by x h false f = rw (kept_line x (eqb-false (id_of ts) x f)) (S.sorted.told x h)

  sorts_grow : (τ : State) (p : ℕ) → τ.sorts ≡ σ.sorts ++ (id_of ts, p) ∷ [] → 1 ≤ p → p ≤ 64 → width_told ts ≡ p → Sorted τ (ls ++ l ∷ [])
  sorts_grow τ p q s u z =
      record {
        told = λ x h. rw q (by x h (eqb (id_of ts) x) refl);
        none = rw q (at_snoc_other 0 σ.sorts (id_of ts) p (λ y. let u : id_of ts ≡ 0 = y in omega (arith, id_over)) ∙ S.sorted.none);
        wide = λ x h. rw q (at_snoc_other x σ.sorts (id_of ts) p (λ y. too_wide x h y) ∙ S.sorted.wide x h);
        most = λ x. rw q (most_by x (eqb (id_of ts) x) refl);
        defined = λ x. rw q (known_by x (eqb (id_of ts) x) refl);
      }
    where
      too_wide : (x : ℕ) → 2 ^ 64 ≤ x → id_of ts ≡ x → ⊥
      too_wide x h y = omega (arith, P.form.small_id)

      by : (x : ℕ) → 0 < x → (b : Bool) → eqb (id_of ts) x ≡ b
          → at x (σ.sorts ++ (id_of ts, p) ∷ []) ≡ width_told (tokens (find_line x (ls ++ l ∷ [])))
      by x h true f =
          let g : id_of ts ≡ x = eqb-true (id_of ts) x f in
          rw (← g, found, e, z) (at_snoc_new (id_of ts) σ.sorts (id_of ts) p unknown_sort refl)
      by x h false f =
          rw (kept_line x (eqb-false (id_of ts) x f))
          (at_snoc_other x σ.sorts (id_of ts) p (eqb-false (id_of ts) x f) ∙ S.sorted.told x h)

      most_by : (x : ℕ) (b : Bool) → eqb (id_of ts) x ≡ b → at x (σ.sorts ++ (id_of ts, p) ∷ []) ≤ 64
      most_by x true f =
          let g : id_of ts ≡ x = eqb-true (id_of ts) x f in
          rw (← g, at_snoc_new (id_of ts) σ.sorts (id_of ts) p unknown_sort refl) u
      most_by x false f = rw (at_snoc_other x σ.sorts (id_of ts) p (eqb-false (id_of ts) x f)) (S.sorted.most x)

      known_by : (x : ℕ) (b : Bool) → eqb (id_of ts) x ≡ b
          → known x (σ.sorts ++ (id_of ts, p) ∷ []) ≡ not (eqb (at x (σ.sorts ++ (id_of ts, p) ∷ [])) 0)
      known_by x true f =
          let g : id_of ts ≡ x = eqb-true (id_of ts) x f in
          rw (← g, at_snoc_new (id_of ts) σ.sorts (id_of ts) p unknown_sort refl, known_snoc_new (id_of ts) σ.sorts (id_of ts) p refl, ne_eqb p 0 (λ y. let u : p ≡ 0 = y in omega arith))
      known_by x false f =
          rw (at_snoc_other x σ.sorts (id_of ts) p (eqb-false (id_of ts) x f), known_snoc_other x σ.sorts (id_of ts) p (eqb-false (id_of ts) x f))
          (S.sorted.defined x)

  -- names that stay, and a name that is added
  also_stays : (τ : State) → τ.named ≡ σ.named → (x y : ℕ) → Also σ x y → Also τ x y
  also_stays τ q x y A = record { told = rw q A.told; known_too = rw q A.known_too; same = rw q A.same; below = A.below }

  also_grows : (τ : State) (n : ℕ) → τ.named ≡ σ.named ++ (id_of ts, n) ∷ [] → (x y : ℕ) → Also σ x y → Also τ x y
  also_grows τ n q x y A =
      record {
        told = rw q (known_snoc_old x σ.named (id_of ts) n A.told);
        known_too = rw q (known_snoc_old y σ.named (id_of ts) n A.known_too);
        same =
            rw q
            (at_snoc_old x σ.named (id_of ts) n A.told ∙ A.same ∙ sym (at_snoc_old y σ.named (id_of ts) n A.known_too));
        below = A.below;
      }

  stays : (τ : State) → τ.last ≡ (item ts).id → τ.named ≡ σ.named → length σ.nodes ≤ length τ.nodes → Sorted τ (ls ++ l ∷ [])
      → is_alias ts ≡ false → length τ.nodes ≤ 1024 → AllWide τ.nodes → length τ.roots ≤ 256 → Sound (ls ++ l ∷ []) τ
  stays τ el en ln so na nf nw rf =
      record {
        lines_are_below = rw (el, j) all_are_below;
        last_small = rw (el, j) P.form.small_id;
        names_below = λ x h. rw (el, j) (let b = S.names_below x (rw en at h) in omega (arith, id_over));
        names_some = λ x h. S.names_some x (rw en at h);
        names_inside = λ x h. rw en (let b = S.names_inside x (rw en at h) in omega arith);
        sorted = so;
        aliases = λ x h. by x h (eqb (id_of ts) x) refl;
        nodes_few = nf;
        nodes_wide = nw;
        roots_few = rf;
      }
    where
      by : (x : ℕ) → 0 < x → (b : Bool) → eqb (id_of ts) x ≡ b → is_alias (tokens (find_line x (ls ++ l ∷ []))) ≡ true
          → Also τ x (value_in 10 (token (tokens (find_line x (ls ++ l ∷ []))) 3))
      by x h true f a =
          let g : id_of ts ≡ x = eqb-true (id_of ts) x f in
          absurd (false≢true (sym na ∙ rw (← g, found, e) at a))
      by x h false f a =
          let k = kept_line x (eqb-false (id_of ts) x f) in
          rw k (also_stays τ en x _ (S.aliases x h (rw k at a)))

  grows : (τ : State) (n : ℕ) → τ.last ≡ (item ts).id → τ.named ≡ σ.named ++ (id_of ts, n) ∷ [] → length σ.nodes ≤ length τ.nodes
      → n < length τ.nodes → Sorted τ (ls ++ l ∷ []) → (is_alias ts ≡ true → n ≡ at (value_in 10 (token ts 3)) σ.named)
      → (is_alias ts ≡ true → known (value_in 10 (token ts 3)) σ.named ≡ true) → length τ.nodes ≤ 1024 → AllWide τ.nodes → length τ.roots ≤ 256
      → Sound (ls ++ l ∷ []) τ
  grows τ n el en ln lt so na nk nf nw rf =
      record {
        lines_are_below = rw (el, j) all_are_below;
        last_small = rw (el, j) P.form.small_id;
        names_below = λ x h. rw (el, j) (below_by x (eqb (id_of ts) x) refl (rw en at h));
        names_some = λ x h. some_by x (eqb (id_of ts) x) refl (rw en at h);
        names_inside = λ x h. rw en (inside_by x (eqb (id_of ts) x) refl (rw en at h));
        sorted = so;
        aliases = λ x h. by x h (eqb (id_of ts) x) refl;
        nodes_few = nf;
        nodes_wide = nw;
        roots_few = rf;
      }
    where
      old : (x : ℕ) → eqb (id_of ts) x ≡ false → known x (σ.named ++ (id_of ts, n) ∷ []) ≡ true → known x σ.named ≡ true
      old x f h = sym (known_snoc_other x σ.named (id_of ts) n (eqb-false (id_of ts) x f)) ∙ h

      below_by : (x : ℕ) (b : Bool) → eqb (id_of ts) x ≡ b → known x (σ.named ++ (id_of ts, n) ∷ []) ≡ true → x ≤ id_of ts
      below_by x true f h = let g : id_of ts ≡ x = eqb-true (id_of ts) x f in omega arith
      below_by x false f h = let b = S.names_below x (old x f h) in omega (arith, id_over)

      some_by : (x : ℕ) (b : Bool) → eqb (id_of ts) x ≡ b → known x (σ.named ++ (id_of ts, n) ∷ []) ≡ true → 0 < x
      some_by x true f h = let g : id_of ts ≡ x = eqb-true (id_of ts) x f in omega (arith, id_over)
      some_by x false f h = S.names_some x (old x f h)

      inside_by : (x : ℕ) (b : Bool) → eqb (id_of ts) x ≡ b → known x (σ.named ++ (id_of ts, n) ∷ []) ≡ true
          → at x (σ.named ++ (id_of ts, n) ∷ []) < length τ.nodes
      inside_by x true f h =
          let g : id_of ts ≡ x = eqb-true (id_of ts) x f in
          rw (← g, at_snoc_new (id_of ts) σ.named (id_of ts) n name_unknown refl) lt
      inside_by x false f h =
          let k = S.names_inside x (old x f h) in
          rw (at_snoc_other x σ.named (id_of ts) n (eqb-false (id_of ts) x f)) (omega arith)

      by : (x : ℕ) → 0 < x → (b : Bool) → eqb (id_of ts) x ≡ b → is_alias (tokens (find_line x (ls ++ l ∷ []))) ≡ true
          → Also τ x (value_in 10 (token (tokens (find_line x (ls ++ l ∷ []))) 3))
      by x h true f a =
          let g : id_of ts ≡ x = eqb-true (id_of ts) x f in
          let y : is_alias ts ≡ true = rw (← g, found, e) at a in
          let k = nk y in
          let b = S.names_below _ k in
          rw (← g, found, e)
          record {
            told = rw en (known_snoc_new (id_of ts) σ.named (id_of ts) n refl);
            known_too = rw en (known_snoc_old _ σ.named (id_of ts) n k);
            same =
                rw en
                (at_snoc_new (id_of ts) σ.named (id_of ts) n name_unknown refl ∙ na y ∙ sym (at_snoc_old _ σ.named (id_of ts) n k));
            below = omega (arith, id_over);
          }
      by x h false f a =
          let k = kept_line x (eqb-false (id_of ts) x f) in
          rw k (also_grows τ n en x _ (S.aliases x h (rw k at a)))

  -- by what the line makes
  none_told : (k : ℕ) → k ≡ number_of (token ts 1) → 0 < k → width_told ts ≡ 0
  unfolding width_told
  none_told k q h = rw (← q, ne_eqb k 0 (λ z. let y : k ≡ 0 = z in omega arith))

  no_ext : (k : ℕ) → k ≡ number_of (token ts 1) → (eqb k 25 || eqb k 26) ≡ false → is_alias ts ≡ false
  unfolding is_alias
  no_ext k q h = rw (← q, h)

  new_inside : 0 < number_of (token ts 1) → number_of (token ts 1) < 27
      → node_for σ (item ts) < length (σ.nodes ++ new_nodes σ (item ts))
  new_inside h g = by (is_alias ts) refl
    where
      by : (b : Bool) → is_alias ts ≡ b → node_for σ (item ts) < length (σ.nodes ++ new_nodes σ (item ts))
      by true y =
          let A = another σ ts y in
          let i = S.names_inside _ (A.told P.refs_known) in
          rw (length-append σ.nodes (new_nodes σ (item ts)), A.stands) (omega arith)
      by false y = made (alias_empty σ ts h g ∙ y)
        where
          made : eqb (length (new_nodes σ (item ts))) 0 ≡ false → node_for σ (item ts) < length (σ.nodes ++ new_nodes σ (item ts))
          made z = last_node σ ts z

  step : (k : ℕ) (m : Makes) → Role k m → k ≡ number_of (token ts 1) → length (added σ (item ts) m).nodes ≤ 1024
      → AllWide (added σ (item ts) m).nodes → length (added σ (item ts) m).roots ≤ 256 → Sound (ls ++ l ∷ []) (added σ (item ts) m)
  unfolding added naming
  step k m makes_sort q nf nw rf =
      let f = sort_fits σ ts (sym q) _ _ _ _ P.fitting in
      stays (added σ (item ts) Sort) refl refl (omega arith)
      (sorts_grow (added σ (item ts) Sort) (item ts).first (rw j) f.0 f.1 f.2)
      (no_ext k q refl) nf nw rf
  step k m makes_input q nf nw rf =
      grows (added σ (item ts) Input) (node_for σ (item ts)) refl (rw j) (omega (arith, length-append σ.nodes (new_nodes σ (item ts))))
      (new_inside (rw (← q) (omega arith)) (rw (← q) (omega arith)))
      (sorts_stay (added σ (item ts) Input) refl (none_told k q (omega arith)))
      (λ y. absurd (false≢true (sym (no_ext k q refl) ∙ y))) (λ y. absurd (false≢true (sym (no_ext k q refl) ∙ y))) nf nw rf
  step k m (makes_a_value h g) q nf nw rf =
      grows (added σ (item ts) Value) (node_for σ (item ts)) refl (rw j) (omega (arith, length-append σ.nodes (new_nodes σ (item ts))))
      (new_inside (rw (← q) (omega arith)) (rw (← q) g))
      (sorts_stay (added σ (item ts) Value) refl (none_told k q (omega arith)))
      (λ y. (another σ ts y).stands) (λ y. (another σ ts y).told P.refs_known) nf nw rf
  step k m (makes_a_root h) q nf nw rf =
      stays (added σ (item ts) Root) refl refl (omega (arith, length-append σ.nodes (new_nodes σ (item ts))))
      (sorts_stay (added σ (item ts) Root) refl (none_told k q (omega arith)))
      (no_ext k q (rw (ne_eqb k 25 (λ z. let y : k ≡ 25 = z in omega arith), ne_eqb k 26 (λ z. let y : k ≡ 26 = z in omega arith)))) nf nw rf

-- ---- all states

wide_append : (ms ns : List Node) → AllWide ms → AllWide ns → AllWide (ms ++ ns)
unfolding AllWide
wide_append [] ns a b = b
wide_append (m ∷ ms) ns a b = (a.0, wide_append ms ns a.1 b)

pub wide_at : (ns : List Node) (k : ℕ) → AllWide ns → width_in ns k ≤ 64
unfolding AllWide width_in
wide_at [] k a = omega arith
wide_at (n ∷ ns) zero a = a.0
wide_at (n ∷ ns) (suc k) a = wide_at ns k a.1

operands_wide : (σ : State) (rs : List Ref) → AllWide σ.nodes → AllWide (nots (operands σ rs))
unfolding AllWide operands nots operand_of
operands_wide σ [] a = tt
operands_wide σ (r ∷ rs) a = by r.negative (operands_wide σ rs a)
  where
    by : (b : Bool) → AllWide (nots (operands σ rs))
        → AllWide (cond b (invert (width_in σ.nodes (at r.line σ.named)) (at r.line σ.named) ∷ nots (operands σ rs)) (nots (operands σ rs)))
    by true h = (wide_at σ.nodes (at r.line σ.named) a, h)
    by false h = h

own_wide : (k : Word) (w wa wb wc n a b c p q v : ℕ) (t : Constant) → w ≤ 64 → fits k w wa wb wc p q t ≡ true → AllWide (own k w n a b c p q v)
unfolding AllWide own fits
own_wide sort w wa wb wc n a b c p q v t h f = tt
own_wide input w wa wb wc n a b c p q v t h f = (h, tt)
own_wide zeros w wa wb wc n a b c p q v t h f = (h, tt)
own_wide one w wa wb wc n a b c p q v t h f = (h, tt)
own_wide ones w wa wb wc n a b c p q v t h f = (h, tt)
own_wide const w wa wb wc n a b c p q v t h f = (h, tt)
own_wide constd w wa wb wc n a b c p q v t h f = (h, tt)
own_wide consth w wa wb wc n a b c p q v t h f = (h, tt)
own_wide inv w wa wb wc n a b c p q v t h f = (h, tt)
own_wide conj w wa wb wc n a b c p q v t h f = (h, tt)
own_wide disj w wa wb wc n a b c p q v t h f = (h, (h, (h, (h, tt))))
own_wide xor w wa wb wc n a b c p q v t h f = (h, tt)
own_wide add w wa wb wc n a b c p q v t h f = (h, tt)
own_wide sub w wa wb wc n a b c p q v t h f = (h, (h, (h, tt)))
own_wide mul w wa wb wc n a b c p q v t h f = (h, tt)
own_wide sll w wa wb wc n a b c p q v t h f = (h, tt)
own_wide srl w wa wb wc n a b c p q v t h f = (h, tt)
own_wide sra w wa wb wc n a b c p q v t h f = (h, tt)
own_wide eq w wa wb wc n a b c p q v t h f = (h, tt)
own_wide neq w wa wb wc n a b c p q v t h f = (h, (h, tt))
own_wide ult w wa wb wc n a b c p q v t h f = (h, tt)
own_wide slt w wa wb wc n a b c p q v t h f = (h, tt)
own_wide ite w wa wb wc n a b c p q v t h f = (h, tt)
own_wide concat w wa wb wc n a b c p q v t h f = (h, tt)
own_wide slice w wa wb wc n a b c p q v t h f = (h, tt)
own_wide uext w wa wb wc n a b c p q v t h f = by (eqb p 0)
  where
    by : (z : Bool) → AllWide (cond z [] (constant_node p 0 ∷ operator 12 w n a 0 ∷ []))
    by true = tt
    by false = (let g : wa + p ≡ w = eqb-true (wa + p) w f in omega arith, (h, tt))
own_wide sext w wa wb wc n a b c p q v t h f = by (eqb p 0)
  where
    by : (z : Bool) → AllWide (cond z [] (operator 16 w a 0 0 ∷ []))
    by true = tt
    by false = (h, tt)
own_wide constraint w wa wb wc n a b c p q v t h f = tt
own_wide other w wa wb wc n a b c p q v t h f = tt

new_wide : {room : ℕ} {ls : List (List ℕ)} {σ : State} {ts : List Token} → Sound ls σ → Passes room σ ts → AllWide (new_nodes σ (item ts))
unfolding new_nodes
new_wide {room} {ls} {σ} {ts} S P =
    wide_append (nots (operands σ (item ts).refs)) _ (operands_wide σ (item ts).refs S.nodes_wide)
    (own_wide (item ts).word _ _ _ _ _ _ _ _ _ _ _ (item ts).constant (S.sorted.most (item ts).sort) P.fitting)

nodes_after : (σ : State) (i : Item) (m : Makes) → AllWide σ.nodes → AllWide (new_nodes σ i) → AllWide (added σ i m).nodes
unfolding added naming
nodes_after σ i Sort a b = a
nodes_after σ i Input a b = wide_append σ.nodes (new_nodes σ i) a b
nodes_after σ i Value a b = wide_append σ.nodes (new_nodes σ i) a b
nodes_after σ i Root a b = wide_append σ.nodes (new_nodes σ i) a b

line_sound : {room : ℕ} {ls : List (List ℕ)} {σ : State} (l : List ℕ) (ts : List Token) → tokens l ≡ ts → Sound ls σ → Passes room σ ts
    → Sound (ls ++ l ∷ []) (after σ (item ts))
unfolding after item item_of id_of
line_sound {room} {ls} {σ} l ts e S P =
    step l ts e S P refl (number_of (token ts 1)) (shape (word_of (number_of (token ts 1)))).makes (role (number_of (token ts 1))) refl
    P.nodes_few (nodes_after σ (item ts) _ S.nodes_wide (new_wide S P)) P.roots_few

pub start_sound : Sound [] start
unfolding AllBelow AllWide known at find_line
start_sound =
    record {
      lines_are_below = tt;
      last_small = pow_pos 64;
      names_below = λ id h. absurd (false≢true h);
      names_some = λ id h. absurd (false≢true h);
      names_inside = λ id h. absurd (false≢true h);
      sorted = record { told = λ id h. sym (rw (no_line id) no_width); none = refl; wide = λ id h. refl; most = λ id. omega arith; defined = λ id. refl };
      aliases = λ id h a. absurd (false≢true (sym no_alias ∙ rw (no_line id) at a));
      nodes_few = omega arith;
      nodes_wide = tt;
      roots_few = omega arith;
    }

pub reached_sound : {room : ℕ} {ls : List (List ℕ)} {σ : State} → Reached room ls σ → Sound ls σ
unfolding after_line
reached_sound begin = start_sound
reached_sound {room} (more {ls} {σ} l r e) = by (tokens l) refl (reached_sound r) e
  where
    by : (ts : List Token) → tokens l ≡ ts → Sound ls σ → line_fault room σ ts ≡ 0 → Sound (ls ++ l ∷ []) (after_line σ ts)
    by [] q S f = blank_sound ls l σ q S
    by (t ∷ ts) q S f = line_sound l (t ∷ ts) q S (passes room σ t ts f)
