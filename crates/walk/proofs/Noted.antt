-- Where the bodies of DEFs begin, noted on the way, so that a CAL finds the body that it stands for. A walk
-- that finds it in another way brings its own.
-- Noted         pairs up to far have been walked, and where their DEFs' bodies begin is noted
-- noted-start   before the first pair
-- noted-event, noted_move   an event, and any other pair
-- noted-body    where a CAL goes, the body that it stands for begins
use Prim.Native.Nat.{ℕ, ◌+◌, ◌/◌, ◌<◌, ◌≤◌, max}
use mathlib.Core.Path.{◌≡◌, refl, sym, ap, ◌∙◌, subst}
use mathlib.Core.List.{List}
use native.Mathlib.Decide.{dec_lt, ℕ_discrete}
use native.Mathlib.Omega.{arith}
use lib.ListN.{length, get_or, set, length-set}
use lib.Seq.{get_or-set_same, get_or-set_other}
use Rattle.kind.specs.declared.Kind.TheVariants.{Def, Cal}
use Rattle.kind.specs.Kinds.{kind_of}
use Rattle.bodies.specs.Voice.{pair_at}
use Rattle.bodies.proofs.Cells.{blank}
use Rattle.moves.specs.declared.Move.{Move}
use Rattle.moves.specs.declared.Move.TheVariants.{Repeat, Phrase, Call, Tal, End}
use Rattle.std.specs.Prelude.{Some, None}
use Rattle.moves.specs.Moves.{next_of, BoundedMove}
use Rattle.moves.specs.Noted.{body_in, starts_after}
use Rattle.walk.proofs.Contexts.{Context, outermost, repeating, standing, calling, Passed, Onward, Start, Goes}
use Rattle.walk.proofs.Facts.{IsDef, Facts}
use Rattle.walk.proofs.Walks.{kind_in, move_kind}

passed-more : (far far' : ℕ) (c : Context) → far ≤ far' → Passed far c → Passed far' c
unfolding Passed
passed-more far far' outermost h p = tt
passed-more far far' (repeating q l c) h p = (omega (arith, p.0), passed-more far far' c h p.1)
passed-more far far' (standing c) h p = passed-more far far' c h p
passed-more far far' (calling q c) h p = (omega (arith, p.0), passed-more far far' c h p.1)

module _ (bs : List ℕ) where
  -- a pair that is noted for DEF k, below far
  abbrev Found : ℕ → List ℕ → ℕ → Type 0
  Found far starts k = (get_or starts k 0 ≤ far) × Start bs k (get_or starts k 0)

  pub record Noted (at : ℕ) (c : Context) (starts : List ℕ) : Type 0 where
    pub far : ℕ
    pub reached : at ≤ far
    pub passed : Passed far c
    pub found : (h k : ℕ) → h < far → h < length bs / 2 → IsDef bs h k → Found far starts k
    pub starts-size : length starts ≡ 24

  pub noted-start : (c : Context) → Passed 0 c → Noted 0 c (blank 24)
  noted-start c p =
      record { far = 0; reached = omega arith; passed = p; found = λ h k l i d. absurd (let z : ⊥ = omega arith in z); starts-size = refl }

  module _ (at : ℕ) (c : Context) (starts : List ℕ) (n : Noted at c starts) where
    abbrev far' : ℕ
    far' = max n.far (at + 1)

    -- one pair more has been walked
    noted-on : (body at' : ℕ) (c' : Context) (starts' : List ℕ) → Onward at body c at' c' → body ≤ far' → length starts' ≡ 24
        → ((h k : ℕ) → h < n.far → h < length bs / 2 → IsDef bs h k → Found far' starts' k) → ((k : ℕ) → IsDef bs at k → Found far' starts' k) → Noted at' c' starts'
    noted-on body at' c' starts' onward b size old new =
        let o = onward far' (omega arith) b (passed-more n.far far' c (omega arith) n.passed) in
        record { far = far'; reached = o.0; passed = o.1; found = λ h k l i d. go h k l i d (dec_lt h n.far); starts-size = size }
      where
        go : (h k : ℕ) → h < far' → h < length bs / 2 → IsDef bs h k → Dec (h < n.far) → Found far' starts' k
        go h k l i d (yes p) = old h k p i d
        go h k l i d (no p) = let same : h ≡ at = omega (arith, n.reached) in new k (subst (λ (x : ℕ). IsDef bs x k) same d)

    -- no DEF: what is noted stays
    noted_same : (body at' : ℕ) (c' : Context) → Onward at body c at' c' → body ≤ far' → ((k : ℕ) → IsDef bs at k → ⊥) → Noted at' c' starts
    noted_same body at' c' onward b none =
        noted-on body at' c' starts onward b n.starts-size (λ h k l i d. let f = n.found h k l i d in (omega (arith, f.0), f.1)) (λ k d. absurd (none k d))

    -- DEF k: where its body begins is noted
    noted-def : (k : ℕ) (at' : ℕ) (c' : Context) → Onward at 0 c at' c' → IsDef bs at k → k < 24 → Start bs k (at + 1) → Noted at' c' (set starts k (at + 1))
    noted-def k at' c' onward e few start =
        noted-on 0 at' c' (set starts k (at + 1)) onward (omega arith) (length-set starts k (at + 1) ∙ n.starts-size)
        (λ h j l i d. number j (ℕ_discrete j k) (let f = n.found h j l i d in (omega (arith, f.0), f.1)))
        (λ j d. same j (let x : Def k ≡ Def j = sym e ∙ d in cc))
      where
        same : (j : ℕ) → k ≡ j → Found far' (set starts k (at + 1)) j
        same j x =
            let f : get_or (set starts k (at + 1)) k 0 ≡ at + 1 = get_or-set_same starts k (at + 1) 0 (omega (arith, n.starts-size)) in
            subst (λ (y : ℕ). Found far' (set starts k (at + 1)) y) x (rw f (omega arith, start))

        number : (j : ℕ) → Dec (j ≡ k) → Found far' starts j → Found far' (set starts k (at + 1)) j
        number j (yes x) old = same j (sym x)
        number j (no x) old = rw (get_or-set_other starts k j (at + 1) 0 x) old

    pub noted-event : (at' : ℕ) (c' : Context) → next_of (kind_of (pair_at bs at)) ≡ None → Onward at 0 c at' c' → Noted at' c' starts
    noted-event at' c' e onward =
        noted_same 0 at' c' onward (omega arith) (λ k d. let x : Some (Phrase k) ≡ None = sym (ap next_of d) ∙ e in let z : ◌≡◌ {A = ℕ} 0 1 = cc in omega arith)

    -- where a CAL goes, by its DEF before it
    called : Facts bs → at < length bs / 2 → (k : ℕ) → kind_of (pair_at bs at) ≡ Cal k → Found n.far starts k
    called f i k e = let b = f.cal at k i e in n.found b.0 k (omega (arith, b.1, n.reached)) (omega (arith, b.1)) b.2

    moved : Facts bs → at < length bs / 2 → (m : Move) → kind_of (pair_at bs at) ≡ kind_in m → BoundedMove m → (at' : ℕ) (c' : Context)
        → Onward at (body_in m starts) c at' c' → Noted at' c' (starts_after m at starts)
    unfolding body_in starts_after
    moved f i (Repeat t) e b at' c' onward = noted_same 0 at' c' onward (omega arith) (λ k d. let z : ◌≡◌ {A = ℕ} 0 1 = cc in omega arith)
    moved f i (Phrase k) e b at' c' onward = noted-def k at' c' onward e b (f.def at k i e)
    moved f i (Call k) e b at' c' onward =
        noted_same (get_or starts k 0) at' c' onward (omega (arith, (called f i k e).0)) (λ j d. let z : ◌≡◌ {A = ℕ} 0 1 = cc in omega arith)
    moved f i Tal e b at' c' onward = noted_same 0 at' c' onward (omega arith) (λ k d. let z : ◌≡◌ {A = ℕ} 0 1 = cc in omega arith)
    moved f i End e b at' c' onward = noted_same 0 at' c' onward (omega arith) (λ k d. let z : ◌≡◌ {A = ℕ} 0 1 = cc in omega arith)

    pub noted_move : Facts bs → at < length bs / 2 → (m : Move) → next_of (kind_of (pair_at bs at)) ≡ Some m → BoundedMove m → (at' : ℕ) (c' : Context)
        → Onward at (body_in m starts) c at' c' → Noted at' c' (starts_after m at starts)
    noted_move f i m e b at' c' onward = moved f i m (move_kind _ m e) b at' c' onward

    goes : Facts bs → at < length bs / 2 → (m : Move) → kind_of (pair_at bs at) ≡ kind_in m → Goes bs m (body_in m starts)
    unfolding body_in
    goes f i (Repeat t) e = tt
    goes f i (Phrase k) e = tt
    goes f i (Call k) e = (called f i k e).1
    goes f i Tal e = tt
    goes f i End e = tt

    pub noted-body : Facts bs → at < length bs / 2 → (m : Move) → next_of (kind_of (pair_at bs at)) ≡ Some m → Goes bs m (body_in m starts)
    noted-body f i m e = goes f i m (move_kind _ m e)
