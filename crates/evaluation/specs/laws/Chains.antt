-- Laws of chains of slots: what is written before a chain's links does not change it, and a link put in front of it makes it longer;
-- and of the slots that tell where what is above a node ends.
use Rattle.std.specs.Prelude.{◌≡◌, Bool, ◌&&◌, List, ◌∷◌, ℕ, ◌+◌, ◌*◌, ◌/◌, ◌≤◌, ◌<◌, max, eqb, length, get_or, set}
use Rattle.std.proofs.Math.Path.{refl}
use Rattle.std.proofs.Common.{sym, ◌∙◌, arith, le_refl, eq-eqb, ne_eqb, length-set, get_or-set_same, lt-length-set}
use Rattle.std.proofs.Math.Bool.{true, false}
use Rattle.std.proofs.Math.Decide.{ℕ_discrete}
use Rattle.std.proofs.Math.Seq.{get_or-set_other}
use Rattle.evaluation.specs.Readers.{Chain, Chain.ends, Chain.link}
use Rattle.evaluation.specs.inner.Readers.{ChainFrom, ChainFrom.ends as ends_from, ChainFrom.link as link_from, raised, in_front}
use Rattle.evaluation.specs.laws.Links.{grown, up_to}

-- a chain has one list
pub chain_unique : {slots l l' : List ℕ} {at : ℕ} → Chain slots at l → Chain slots at l' → l ≡ l'
chain_unique (ends e) (ends e') = refl
chain_unique (ends e) (link e' b' c') = absurd (omega arith)
chain_unique (link e b c) (ends e') = absurd (omega arith)
chain_unique (link {i = i} e b c) (link {i = i'} e' b' c') = let q : i ≡ i' = omega arith in rw (q, chain_unique c c')

-- ---- a chain's first node

pub chain_none : {slots l : List ℕ} {at : ℕ} → Chain slots at l → at ≡ 0 → length l ≡ 0
chain_none (ends e) z = refl
chain_none (link e b c) z = omega arith

pub chain_first : {slots l : List ℕ} {at : ℕ} → Chain slots at l → (at ≡ 0 → ⊥) → (0 < length l) × (at / 4 ≡ get_or l 0 0)
chain_first (ends e) x = absurd (x e)
chain_first (link {at} {i} {j} e b c) x = (omega arith, omega arith)

-- ---- links from a slot on

pub chain_of : {q : ℕ} {slots : List ℕ} {at : ℕ} {l : List ℕ} → ChainFrom q slots at l → Chain slots at l
chain_of (ends_from e) = ends e
chain_of (link_from e b h c) = link e b (chain_of c)

pub chain_wider : {q p : ℕ} {slots : List ℕ} {at : ℕ} {l : List ℕ} → p ≤ q → ChainFrom q slots at l → ChainFrom p slots at l
chain_wider w (ends_from e) = ends_from e
chain_wider w (link_from e b h c) = link_from e b (omega arith) (chain_wider w c)

-- slot p is none of them
chain_kept :
    {q : ℕ} {slots : List ℕ} {at : ℕ} {l : List ℕ} (p x : ℕ)
    → ((i j : ℕ) → j < 3 → q ≤ 4 * i + 1 + j → 4 * i + 1 + j ≡ p → ⊥)
    → ChainFrom q slots at l
    → ChainFrom q (set slots p x) at l
chain_kept p x apart (ends_from e) = ends_from e
chain_kept {q} {slots = slots} p x apart (link_from {at} {i} {j} {l} e b h c) =
    link_from {l = l} e b h (rw (get_or-set_other slots p at x 0 (λ z. apart i j b (omega arith) (sym e ∙ z))) (chain_kept p x apart c))

-- ---- slot p, a link before all others, put in front of the chain of m

module _ (i j p m : ℕ) (slots : List ℕ) (own : p ≡ 4 * i + 1 + j) (b : j < 3) where
  abbrev old : ℕ
  old = get_or slots (4 * m) 0

  kept_all :
      {q at : ℕ} {l : List ℕ}
      → p < q
      → ChainFrom q slots at l
      → ChainFrom p (set (set slots p (get_or slots (4 * m) 0)) (4 * m) p) at l
  kept_all before c =
      chain_wider (omega arith)
      (chain_kept (4 * m) p (λ i j b h e. omega arith) (chain_kept p old (λ i j b h e. omega arith) c))

  front_other : (k : ℕ) → (m ≡ k → ⊥) → get_or (set (set slots p (get_or slots (4 * m) 0)) (4 * m) p) (4 * k) 0 ≡ get_or slots (4 * k) 0
  front_other k x =
      get_or-set_other (set slots p old) (4 * m) (4 * k) p 0 (λ e. omega (arith, x))
      ∙ get_or-set_other slots p (4 * k) old 0 (λ e. omega arith)

  module _ (room : p < length slots) (there : 4 * m < length slots) where
    front_begin : get_or (set (set slots p (get_or slots (4 * m) 0)) (4 * m) p) (4 * m) 0 ≡ p
    front_begin = get_or-set_same (set slots p old) (4 * m) p 0 (lt-length-set slots p old there)

    front_link : get_or (set (set slots p (get_or slots (4 * m) 0)) (4 * m) p) p 0 ≡ get_or slots (4 * m) 0
    front_link = get_or-set_other (set slots p old) (4 * m) p p 0 (λ e. omega arith) ∙ get_or-set_same slots p old 0 room

    front_here :
        {q : ℕ} {l : List ℕ}
        → p < q
        → ChainFrom q slots (get_or slots (4 * m) 0) l
        → ChainFrom p (set (set slots p (get_or slots (4 * m) 0)) (4 * m) p)
        (get_or (set (set slots p (get_or slots (4 * m) 0)) (4 * m) p) (4 * m) 0) (i ∷ l)
    front_here {l = l} before c = rw front_begin (link_from {l = l} own b (le_refl p) (rw front_link (kept_all before c)))

-- ---- slot 4m + 1, which is no link yet, raised

raised_begin : (m e k : ℕ) (slots : List ℕ) → get_or (raised m e slots) (4 * k) 0 ≡ get_or slots (4 * k) 0
unfolding raised
raised_begin m e k slots = get_or-set_other slots (4 * m + 1) (4 * k) (max (get_or slots (4 * m + 1) 0) e) 0 (λ z. omega arith)

raised_slot :
    (m e k : ℕ) (slots : List ℕ)
    → 4 * m + 1 < length slots
    → get_or (raised m e slots) (4 * k + 1) 0 ≡ up_to (eqb m k) e (get_or slots (4 * k + 1) 0)
unfolding raised
raised_slot m e k slots room =
    elim (ℕ_discrete m k) [
      | yes z ↦ rw (eq-eqb m k z, ← z) (get_or-set_same slots (4 * m + 1) (max (get_or slots (4 * m + 1) 0) e) 0 room)
      | no x ↦
          rw (ne_eqb m k x)
          (get_or-set_other slots (4 * m + 1) (4 * k + 1) (max (get_or slots (4 * m + 1) 0) e) 0 (λ z. x (omega arith)))
    ]

raised_chain :
    {q at : ℕ} {slots l : List ℕ} (m e : ℕ) → 4 * m + 1 < q → ChainFrom q slots at l → ChainFrom q (raised m e slots) at l
unfolding raised
raised_chain {slots = slots} m e before c = chain_kept (4 * m + 1) (max (get_or slots (4 * m + 1) 0) e) (λ i j b h z. omega arith) c

pub length_raised : (m e : ℕ) (slots : List ℕ) → length (raised m e slots) ≡ length slots
unfolding raised
length_raised m e slots = length-set slots (4 * m + 1) (max (get_or slots (4 * m + 1) 0) e)

-- ---- both, where node i has the link, to a node before it; and else nothing changes

module _ (i j p m e : ℕ) (slots : List ℕ) (own : p ≡ 4 * i + 1 + j) (b : j < 3) (k : ℕ) (room : p < length slots) where
  still :
      {q : ℕ} {l : List ℕ}
      → p < q
      → m < i
      → ChainFrom q slots (get_or slots (4 * k) 0) l
      → ChainFrom q (raised m e slots) (get_or (raised m e slots) (4 * k) 0) l
  still before h c = rw (raised_begin m e k slots) (raised_chain m e (omega arith) c)

  pub front_chain :
      {q : ℕ} {l : List ℕ} (there : Bool)
      → (there ≡ true → m < i)
      → p < q
      → ChainFrom q slots (get_or slots (4 * k) 0) l
      → ChainFrom p (in_front there m p e slots) (get_or (in_front there m p e slots) (4 * k) 0) (grown (there && eqb m k) i l)
  unfolding in_front
  front_chain true below before c =
      let h = below refl in
      elim (ℕ_discrete m k) [
        | yes z ↦
            rw (eq-eqb m k z, ← z)
            (front_here i j p m (raised m e slots) own b (omega (arith, length_raised m e slots)) (omega (arith, length_raised m e slots)) before
            (rw (← z) at (still before h c)))
        | no x ↦ rw (ne_eqb m k x, front_other i j p m (raised m e slots) own b k x) (kept_all i j p m (raised m e slots) own b before (still before h c))
      ]
  front_chain false below before c = chain_wider (omega arith) c

  -- a node without links hears of it in its slot 4k + 1
  pub front_slot :
      (there : Bool)
      → (there ≡ true → m < i)
      → (there ≡ true → k ≡ i → ⊥)
      → get_or (in_front there m p e slots) (4 * k + 1) 0 ≡ up_to (there && eqb m k) e (get_or slots (4 * k + 1) 0)
  unfolding in_front
  front_slot true below other =
      get_or-set_other (set (raised m e slots) p (get_or (raised m e slots) (4 * m) 0)) (4 * m) (4 * k + 1) p 0 (λ z. omega arith)
      ∙ get_or-set_other (raised m e slots) p (4 * k + 1) (get_or (raised m e slots) (4 * m) 0) 0 (λ z. other refl (omega arith))
      ∙ raised_slot m e k slots (omega (arith, below refl))
  front_slot false below other = refl

pub length_front : (there : Bool) (m p e : ℕ) (slots : List ℕ) → length (in_front there m p e slots) ≡ length slots
unfolding in_front
length_front true m p e slots =
    length-set (set (raised m e slots) p (get_or (raised m e slots) (4 * m) 0)) (4 * m) p
    ∙ length-set (raised m e slots) p (get_or (raised m e slots) (4 * m) 0)
    ∙ length_raised m e slots
length_front false m p e slots = refl
