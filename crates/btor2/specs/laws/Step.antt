-- That taking a line keeps what code keeps, and refuses as the definition does.
use Rattle.std.specs.Prelude.{◌≡◌, Bool, true, false, cond, List, [], ◌∷◌, ◌++◌, ℕ, ◌+◌, ◌*◌, ◌≤◌, ◌<◌, eqb, length, get_or, take, set, Ok}
use Rattle.std.proofs.Math.Path.{refl}
use Rattle.std.proofs.Common.{sym, ◌∙◌, append-nil, arith, add-one, length-set, length-append, take-suc-set, get_or-set_same, get_or-set_other, eq-eqb, ne_eqb, eqb-true}
use Rattle.std.proofs.lemmas.Bool.{eqb-false}
use Rattle.std.proofs.lemmas.List.Edits.{sets}
use Rattle.problem.specs.declared.layout.Node.{Node}
use Rattle.lines.specs.declared.table.Makes.{Makes}
use Rattle.lines.specs.declared.table.Makes.TheVariants.{Sort, Input, Value, Root}
use Rattle.btor2.specs.declared.take.Counts.{Counts}
use Rattle.lines.specs.Lines.{Token, token, kept, tokens}
use Rattle.lines.specs.Words.{number_of, shape}
use Rattle.lines.specs.Format.{◌or_else◌, format_fault, refs_from, Item, item_of, item}
use Rattle.spelling.specs.Nodes.{own, nots, is_root}
use Rattle.btor2.specs.Conversion.{State, known, at, operands, new_nodes, node_for, with_root, naming, added, after, too_much, id_fault, misfit, item_fault, line_fault, after_line}
use Rattle.spelling.specs.Bytes.{all_nodes}
use Rattle.lines.specs.inner.Told.{id_of, find_line, is_alias}
use Rattle.btor2.specs.inner.Kept.{Rising, Named}
use Rattle.btor2.specs.inner.Taking.{overfull, roots_after, RootIf, Kept, Stepped, next}
use Rattle.btor2.specs.laws.Reached.{more}
use Rattle.btor2.specs.laws.Entry.{known_snoc_new, known_snoc_old, known_snoc_other, at_snoc_new, at_snoc_old, find_other, find_new}
use Rattle.btor2.specs.laws.Sound.{Sound, Role, makes_sort, makes_input, makes_a_value, makes_a_root, find_blank}
use Rattle.spelling.specs.laws.Written.{all_long, all_append, prefix_grows}

-- ---- lines without tokens

head_some : (ps : List Token) (t : Token) (ts : List Token) → kept ps ≡ t ∷ ts → length t ≡ 0 → ⊥
unfolding kept
head_some [] t ts e z = absurd (let y : ◌≡◌ {A = ℕ} 0 1 = cc in omega arith)
head_some (p ∷ ps) t ts e z = by (eqb (length p) 0) (eqb (get_or p 0 0) 59) refl refl (head_some ps t ts)
  where
    by : (a b : Bool) → eqb (length p) 0 ≡ a → eqb (get_or p 0 0) 59 ≡ b → (kept ps ≡ t ∷ ts → length t ≡ 0 → ⊥) → ⊥
    by true b q r f = f (rw q at e) z
    by false true q r f = let g : ◌≡◌ {A = List Token} [] (t ∷ ts) = rw (q, r) at e in let y : ◌≡◌ {A = ℕ} 0 1 = cc in omega arith
    by false false q r f =
        let g : ◌≡◌ {A = List Token} (p ∷ kept ps) (t ∷ ts) = rw (q, r) at e in
        let y : p ≡ t = cc in
        eqb-false (length p) 0 q (rw (← y) at z)

pub blank_line : (l : List ℕ) → length (token (tokens l) 0) ≡ 0 → tokens l ≡ []
unfolding tokens
blank_line l e = by (tokens l) refl
  where
    by : (ts : List Token) → tokens l ≡ ts → ts ≡ []
    by [] q = refl
    by (t ∷ ts) q = absurd (head_some _ t ts q (rw q at e))

module _ {room : ℕ} {σ : State} {ls : List (List ℕ)} {n : Counts} {bytes ids places rooted : List ℕ} (K : Kept room σ ls n bytes ids places rooted) where
  pub step_blank : (l : List ℕ) (t : Token) → t ≡ token (tokens l) 0 → length t ≡ 0 → Stepped room σ ls l bytes ids places rooted (Ok n)
  unfolding line_fault after_line
  step_blank l t q z =
      let e = blank_line l (rw q at z) in
      let f : line_fault room σ (tokens l) ≡ 0 = rw e in
      let g : after_line σ (tokens l) ≡ σ = rw e in
      next {n = n} f
      record {
        reached = more l K.reached f;
        last_is = rw g K.last_is;
        nodes_are = rw g K.nodes_are;
        roots_are = rw g K.roots_are;
        written = rw g K.written;
        held = rw g K.held;
        named =
            rw g
            record {
              direct = K.named.direct;
              standing = K.named.standing;
              others = λ x k h. rw (find_blank x ls l e (K.named.some x k)) (K.named.others x k h);
              aliases = λ x p. rw (find_blank x ls l e p) (K.named.aliases x p);
              some = K.named.some;
              most = K.named.most;
              inside = K.named.inside;
              few = K.named.few;
            };
        under = K.under;
        fits = K.fits;
      }

-- ---- refusals

some_tokens : (ts : List Token) → (length (token ts 0) ≡ 0 → ⊥) → (room : ℕ) (σ : State)
    → (line_fault room σ ts ≡ (format_fault ts or_else item_fault room σ (item ts))) × (after_line σ ts ≡ after σ (item ts))
unfolding line_fault after_line
some_tokens [] h room σ = absurd (h refl)
some_tokens (t ∷ ts) h room σ = (refl, refl)

else_left : (m n : ℕ) → (m ≡ 0 → ⊥) → (m or_else n) ≡ m
unfolding ◌or_else◌
else_left m n h = rw (ne_eqb m 0 h)

else_right : (m n : ℕ) → m ≡ 0 → (m or_else n) ≡ n
unfolding ◌or_else◌
else_right m n h = rw (eq-eqb m 0 h)

pub not_zero : (k : ℕ) → 0 < k → k ≡ 0 → ⊥
not_zero k h e = omega arith

module _ (room : ℕ) (σ : State) (l : List ℕ) (t : Token) (q : t ≡ token (tokens l) 0) (z : length t ≡ 0 → ⊥) where
  pub parts : (line_fault room σ (tokens l) ≡ (format_fault (tokens l) or_else item_fault room σ (item (tokens l)))) × (after_line σ (tokens l) ≡ after σ (item (tokens l)))
  parts = some_tokens (tokens l) (rw q at z) room σ

  pub line_format : (m : ℕ) → m ≡ format_fault (tokens l) → (m ≡ 0 → ⊥) → line_fault room σ (tokens l) ≡ m
  line_format m e h = parts.0 ∙ rw (← e) (else_left m _ h)

  module _ (m : ℕ) (e : m ≡ format_fault (tokens l)) (h : m ≡ 0) where
    to_item : line_fault room σ (tokens l) ≡ item_fault room σ (item (tokens l))
    to_item = parts.0 ∙ rw (← e) (else_right m _ h)

    pub line_unknown : id_fault σ (item (tokens l)) ≡ true → line_fault room σ (tokens l) ≡ 3
    unfolding item_fault
    line_unknown u = to_item ∙ rw u (else_left 3 _ (not_zero 3 (omega arith)))

    pub line_misfit : id_fault σ (item (tokens l)) ≡ false → misfit σ (item (tokens l)) ≡ true → line_fault room σ (tokens l) ≡ 4
    unfolding item_fault
    line_misfit u g = to_item ∙ rw (u, g) (else_right 0 _ refl ∙ else_left 4 _ (not_zero 4 (omega arith)))

    pub line_full : id_fault σ (item (tokens l)) ≡ false → misfit σ (item (tokens l)) ≡ false → too_much room (after σ (item (tokens l))) ≡ true
        → line_fault room σ (tokens l) ≡ 5
    unfolding item_fault
    line_full u g f = to_item ∙ rw (u, g, f) (else_right 0 _ refl ∙ else_right 0 _ refl)

    pub line_passes : id_fault σ (item (tokens l)) ≡ false → misfit σ (item (tokens l)) ≡ false → too_much room (after σ (item (tokens l))) ≡ false
        → line_fault room σ (tokens l) ≡ 0
    unfolding item_fault
    line_passes u g f = to_item ∙ rw (u, g, f) (else_right 0 _ refl ∙ else_right 0 _ refl)

-- ---- what a line adds

pub sort_none : (σ : State) (ts : List Token) → number_of (token ts 1) ≡ 0 → new_nodes σ (item ts) ≡ []
unfolding new_nodes item item_of shape refs_from operands nots own
sort_none σ ts e = rw e

-- by what the line makes
pub added_last : (σ : State) (i : Item) (m : Makes) → (added σ i m).last ≡ i.id
unfolding added naming
added_last σ i Sort = refl
added_last σ i Input = refl
added_last σ i Value = refl
added_last σ i Root = refl

pub added_nodes : (σ : State) (ts : List Token) (k : ℕ) (m : Makes) → Role k m → k ≡ number_of (token ts 1)
    → (added σ (item ts) m).nodes ≡ σ.nodes ++ new_nodes σ (item ts)
unfolding added naming
added_nodes σ ts k m makes_sort e = rw (sort_none σ ts (sym e)) (sym (append-nil σ.nodes))
added_nodes σ ts k m makes_input e = refl
added_nodes σ ts k m (makes_a_value g h) e = refl
added_nodes σ ts k m (makes_a_root g) e = refl

with_length : (rs : List ℕ) (r : ℕ) → length (with_root rs r) ≡ cond (is_root r rs) (length rs) (length rs + 1)
unfolding with_root
with_length rs r = by (is_root r rs)
  where
    by : (b : Bool) → length (cond b rs (rs ++ r ∷ [])) ≡ cond b (length rs) (length rs + 1)
    by true = refl
    by false = length-append rs (r ∷ [])

pub added_roots : (σ : State) (i : Item) (m : Makes) → length (added σ i m).roots ≡ roots_after m σ.roots (length σ.roots) (node_for σ i)
unfolding added naming
added_roots σ i Sort = refl
added_roots σ i Input = refl
added_roots σ i Value = refl
added_roots σ i Root = with_length σ.roots (node_for σ i)

-- the array of roots then
pub roots_kept : (m : Makes) (σ : State) (i : Item) (n : ℕ) (rooted after : List ℕ) → n ≡ length σ.roots → take n rooted ≡ σ.roots
    → (roots_after m σ.roots n (node_for σ i) ≤ length rooted)
    → RootIf n (roots_after m σ.roots n (node_for σ i)) (node_for σ i) rooted after
    → take (roots_after m σ.roots n (node_for σ i)) after ≡ (added σ i m).roots
unfolding added naming with_root
roots_kept Sort σ i n rooted after e h l R = rw (R.kept (omega arith)) h
roots_kept Input σ i n rooted after e h l R = rw (R.kept (omega arith)) h
roots_kept Value σ i n rooted after e h l R = rw (R.kept (omega arith)) h
roots_kept Root σ i n rooted after e h l R = by (is_root (node_for σ i) σ.roots) l R
  where
    by : (b : Bool) → cond b n (n + 1) ≤ length rooted → RootIf n (cond b n (n + 1)) (node_for σ i) rooted after
        → take (cond b n (n + 1)) after ≡ cond b σ.roots (σ.roots ++ node_for σ i ∷ [])
    by true l R = rw (R.kept (omega arith)) h
    by false l R = rw (R.added (omega arith), add-one, take-suc-set rooted n (node_for σ i) (omega arith), h)

-- the bytes of the nodes then
pub bytes_kept : (n c : ℕ) (bytes after : List ℕ) (ms ns : List Node) → take (24 * n) bytes ≡ all_nodes ms → length ns ≡ c → 24 * (n + c) ≤ length bytes
    → after ≡ sets bytes (24 * n) (all_nodes ns) → take (24 * (n + c)) after ≡ all_nodes (ms ++ ns)
bytes_kept n c bytes after ms ns w e h a =
    let k : length (all_nodes ns) ≡ 24 * c = all_long ns ∙ rw e in
    let z : 24 * (n + c) ≡ 24 * n + length (all_nodes ns) = omega arith in
    rw (z, a, all_append ms ns, ← w) (prefix_grows bytes (all_nodes ns) (24 * n) (omega arith))

pub overfull_is : (room : ℕ) (τ : State) → too_much room τ ≡ overfull room (length τ.nodes) (length τ.roots)
unfolding too_much overfull
overfull_is room τ = refl

-- ---- names

pub named_of : {σ : State} {ls : List (List ℕ)} {names : ℕ} {ids places : List ℕ} → Sound ls σ
    → ((k : ℕ) → k < names → known (get_or ids k 0) σ.named ≡ true)
    → ((k : ℕ) → k < names → at (get_or ids k 0) σ.named ≡ get_or places k 0)
    → ((id : ℕ) → known id σ.named ≡ true → ((k : ℕ) → k < names → get_or ids k 0 ≡ id → ⊥) → is_alias (tokens (find_line id ls)) ≡ true)
    → Named σ ls names ids places
named_of {σ} S d s o =
    record {
      direct = d;
      standing = s;
      others = o;
      aliases = S.aliases;
      some = S.names_some;
      most = λ id k. let b = S.names_below id k in let c = S.last_small in omega arith;
      inside = S.names_inside;
      few = S.nodes_few;
    }

-- a table of names that stays as it is, or has one more at its end
module _ {σ : State} {ls : List (List ℕ)} {names : ℕ} {ids places : List ℕ} (N : Named σ ls names ids places) (S : Sound ls σ)
    (τ : State) (l : List ℕ) (ts : List Token) (e : tokens l ≡ ts) (above : σ.last < id_of ts) (T : Sound (ls ++ l ∷ []) τ) where
  old_line : (x : ℕ) → known x σ.named ≡ true → find_line x (ls ++ l ∷ []) ≡ find_line x ls
  old_line x k = find_other x ls l (λ z. let b = S.names_below x k in let y : id_of ts ≡ x = rw e at z in omega arith)

  pub names_same : τ.named ≡ σ.named → Named τ (ls ++ l ∷ []) names ids places
  names_same q =
      named_of T (rw q N.direct) (rw q N.standing)
      (λ x k h. let j : known x σ.named ≡ true = rw q at k in rw (old_line x j) (N.others x j h))

  module _ (node : ℕ) (q : τ.named ≡ σ.named ++ (id_of ts, node) ∷ []) where
    was : (x : ℕ) → (id_of ts ≡ x → ⊥) → known x τ.named ≡ true → known x σ.named ≡ true
    was x n k = sym (known_snoc_other x σ.named (id_of ts) node n) ∙ (rw q at k)

    unknown_yet : known (id_of ts) σ.named ≡ false
    unknown_yet = by (known (id_of ts) σ.named) refl
      where
        by : (b : Bool) → known (id_of ts) σ.named ≡ b → b ≡ false
        by true k = absurd (let b = S.names_below (id_of ts) k in omega arith)
        by false k = refl

    -- another name: the table stays
    pub names_also : is_alias ts ≡ true → Named τ (ls ++ l ∷ []) names ids places
    names_also a =
        named_of T (λ k h. rw q (known_snoc_old _ σ.named (id_of ts) node (N.direct k h)))
        (λ k h. rw q (at_snoc_old _ σ.named (id_of ts) node (N.direct k h) ∙ N.standing k h)) (λ x k h. by x k h (eqb (id_of ts) x) refl)
      where
        by : (x : ℕ) → known x τ.named ≡ true → ((k : ℕ) → k < names → get_or ids k 0 ≡ x → ⊥) → (b : Bool) → eqb (id_of ts) x ≡ b
            → is_alias (tokens (find_line x (ls ++ l ∷ []))) ≡ true
        by x k h true f =
            let g : id_of ts ≡ x = eqb-true (id_of ts) x f in
            rw (← g, find_new σ.last (id_of ts) ls l S.lines_are_below above (rw e), e) a
        by x k h false f = let j = was x (eqb-false (id_of ts) x f) k in rw (old_line x j) (N.others x j h)

    -- a node of its own: one more at the end
    pub names_more : names < length ids → names < length places → Named τ (ls ++ l ∷ []) (names + 1) (set ids names (id_of ts)) (set places names node)
    names_more li lp =
        named_of T (λ k h. d k h (eqb k names) refl) (λ k h. s k h (eqb k names) refl) (λ x k h. o x k h (eqb (id_of ts) x) refl)
      where
        d : (k : ℕ) → k < names + 1 → (b : Bool) → eqb k names ≡ b → known (get_or (set ids names (id_of ts)) k 0) τ.named ≡ true
        d k h true f =
            let g : k ≡ names = eqb-true k names f in
            rw (g, get_or-set_same ids names (id_of ts) 0 li, q) (known_snoc_new (id_of ts) σ.named (id_of ts) node refl)
        d k h false f =
            let g : k ≡ names → ⊥ = eqb-false k names f in
            rw (get_or-set_other ids names k (id_of ts) 0 g, q) (known_snoc_old _ σ.named (id_of ts) node (N.direct k (omega arith)))

        s : (k : ℕ) → k < names + 1 → (b : Bool) → eqb k names ≡ b
            → at (get_or (set ids names (id_of ts)) k 0) τ.named ≡ get_or (set places names node) k 0
        s k h true f =
            let g : k ≡ names = eqb-true k names f in
            rw (g, get_or-set_same ids names (id_of ts) 0 li, get_or-set_same places names node 0 lp, q)
            (at_snoc_new (id_of ts) σ.named (id_of ts) node unknown_yet refl)
        s k h false f =
            let g : k ≡ names → ⊥ = eqb-false k names f in
            rw (get_or-set_other ids names k (id_of ts) 0 g, get_or-set_other places names k node 0 g, q)
            (at_snoc_old _ σ.named (id_of ts) node (N.direct k (omega arith)) ∙ N.standing k (omega arith))

        o : (x : ℕ) → known x τ.named ≡ true → ((k : ℕ) → k < names + 1 → get_or (set ids names (id_of ts)) k 0 ≡ x → ⊥) → (b : Bool)
            → eqb (id_of ts) x ≡ b → is_alias (tokens (find_line x (ls ++ l ∷ []))) ≡ true
        o x k h true f =
            let g : id_of ts ≡ x = eqb-true (id_of ts) x f in
            absurd (h names (omega arith) (get_or-set_same ids names (id_of ts) 0 li ∙ g))
        o x k h false f =
            let j = was x (eqb-false (id_of ts) x f) k in
            rw (old_line x j)
            (N.others x j (λ i b c. h i (omega arith) (get_or-set_other ids names i (id_of ts) 0 (λ y. let w : i ≡ names = y in omega arith) ∙ c)))

pub rising_more : (ids : List ℕ) (names id last : ℕ) → Rising ids names → names < length ids → ((k : ℕ) → k < names → get_or ids k 0 ≤ last) → last < id
    → Rising (set ids names id) (names + 1)
rising_more ids names id last R l u h =
    record { inside = omega (arith, length-set ids names id); rises = λ i j a b. by i j a b (eqb j names) refl }
  where
    by : (i j : ℕ) → i < j → j < names + 1 → (t : Bool) → eqb j names ≡ t → get_or (set ids names id) i 0 < get_or (set ids names id) j 0
    by i j a b true f =
        let g : j ≡ names = eqb-true j names f in
        rw (g, get_or-set_same ids names id 0 l, get_or-set_other ids names i id 0 (λ y. let w : i ≡ names = y in omega arith))
        (let v = u i (omega arith) in omega arith)
    by i j a b false f =
        let g : j ≡ names → ⊥ = eqb-false j names f in
        rw (get_or-set_other ids names j id 0 g, get_or-set_other ids names i id 0 (λ y. let w : i ≡ names = y in omega arith))
        (R.rises i j a (omega arith))

pub under_more : (ids : List ℕ) (names id last : ℕ) → names < length ids → ((k : ℕ) → k < names → get_or ids k 0 ≤ last) → last < id
    → (k : ℕ) → k < names + 1 → get_or (set ids names id) k 0 ≤ id
under_more ids names id last l u h k b = by (eqb k names) refl
  where
    by : (t : Bool) → eqb k names ≡ t → get_or (set ids names id) k 0 ≤ id
    by true f = let g : k ≡ names = eqb-true k names f in rw (g, get_or-set_same ids names id 0 l) (omega arith)
    by false f =
        let g : k ≡ names → ⊥ = eqb-false k names f in
        rw (get_or-set_other ids names k id 0 g) (let v = u k (omega arith) in omega arith)
