-- The bodies of a voice written out again are its stored pairs; no event in them is HED, TAL, DEF, END or
-- CAL.
-- read_back     a voice whose bodies are shut, HED n, its body, TAL; DEF k, its body, END; .., is its stored
--               pairs
-- only-events   each event's kind is neither HED, TAL, DEF, END nor CAL
use Prim.Native.Nat.{ℕ, ◌+◌}
use mathlib.Core.Path.{◌≡◌, refl, sym, ap, ◌∙◌, subst}
use mathlib.Core.List.{List, [], ◌∷◌, ◌++◌, append_assoc, append-nil}
use Rattle.meaning.specs.declared.Meaning.{Meaning}
use Rattle.refusals.specs.Numbers.{Outcome}
use Rattle.kind.specs.declared.Kind.{Kind}
use Rattle.kind.specs.Kinds.{kind_of}
use Rattle.bodies.specs.Bodies.{Event, Closer, by_tal, by_end, by_stop, Body, done, event, repeat, phrase, call, inner, outer, with_pair, event_at, bodies, body_of, Piece, one, HED, TAL, DEF, END, CAL, piece, pieces, written_out}
use Rattle.bodies.specs.Order.{Shut, Sound}
use Rattle.bodies.specs.Faithful.{IsEvent, OnlyEvents}

-- a body with the closer that it ends with
unfoldable closer : Closer → List Piece
closer by_tal = TAL ∷ []
closer by_end = END ∷ []
closer by_stop = []

unfoldable spelled : Body → List Piece
spelled (done c) = closer c
spelled (event e r) = one e ∷ spelled r
spelled (repeat n i r) = HED n ∷ (spelled i ++ spelled r)
spelled (phrase k i r) = DEF k ∷ (spelled i ++ spelled r)
spelled (call k r) = CAL k ∷ spelled r

unfoldable together : List Body → List Piece
together [] = []
together (b ∷ bs) = spelled b ++ together bs

one_apart : (bs : List Body) → spelled (inner bs) ++ together (outer bs) ≡ together bs
unfolding inner outer together spelled closer
one_apart [] = refl
one_apart (b ∷ bs) = refl

two-apart : (bs : List Body) → (spelled (inner bs) ++ spelled (inner (outer bs))) ++ together (outer (outer bs)) ≡ together bs
two-apart bs =
    append_assoc (spelled (inner bs)) (spelled (inner (outer bs))) (together (outer (outer bs)))
    ∙ ap (λ (l : List Piece). spelled (inner bs) ++ l) (one_apart (outer bs))
    ∙ one_apart bs

joined-spelled : (e : Event) (z : Kind) (bs : List Body) → together (with_pair e z bs) ≡ piece e z ∷ together bs
unfolding with_pair together spelled closer piece
joined-spelled e Kind.Event bs = ap (λ (l : List Piece). one e ∷ l) (one_apart bs)
joined-spelled e (Kind.Hed n) bs = ap (λ (l : List Piece). HED n ∷ l) (two-apart bs)
joined-spelled e Kind.Tal bs = refl
joined-spelled e (Kind.Def k) bs = ap (λ (l : List Piece). DEF k ∷ l) (two-apart bs)
joined-spelled e Kind.End bs = refl
joined-spelled e (Kind.Cal k) bs = ap (λ (l : List Piece). CAL k ∷ l) (one_apart bs)
joined-spelled e Kind.Hlt bs = ap (λ (l : List Piece). one e ∷ l) (one_apart bs)
joined-spelled e (Kind.Bad n) bs = ap (λ (l : List Piece). one e ∷ l) (one_apart bs)

-- of any pairs at all
bodies-spelled : (i : ℕ) (v : List (Outcome Meaning)) → together (bodies i v) ≡ pieces i v
unfolding bodies together pieces
bodies-spelled i [] = refl
bodies-spelled i (m ∷ ms) = joined-spelled (event_at i m) (kind_of m) (bodies (i + 1) ms) ∙ ap (λ (l : List Piece). piece (event_at i m) (kind_of m) ∷ l) (bodies-spelled (i + 1) ms)

around : (t : Piece) (a b c : List Piece) → (a ++ t ∷ []) ++ (b ++ c) ≡ (a ++ t ∷ b) ++ c
around t a b c = append_assoc a (t ∷ []) (b ++ c) ∙ sym (append_assoc a (t ∷ b) c)

shut-spelled : (c : Closer) (b : Body) → Shut c b → spelled b ≡ written_out b ++ closer c
unfolding Shut spelled written_out closer
shut-spelled c (done d) s = rw s
shut-spelled c (event e r) s = ap (λ (l : List Piece). one e ∷ l) (shut-spelled c r s)
shut-spelled c (repeat n i r) s =
    ap (λ (l : List Piece). HED n ∷ l) (rw (shut-spelled by_tal i s.0, shut-spelled c r s.1) (around TAL (written_out i) (written_out r) (closer c)))
shut-spelled c (phrase k i r) s =
    ap (λ (l : List Piece). DEF k ∷ l) (rw (shut-spelled by_end i s.0, shut-spelled c r s.1) (around END (written_out i) (written_out r) (closer c)))
shut-spelled c (call k r) s = ap (λ (l : List Piece). CAL k ∷ l) (shut-spelled c r s)

pub read_back : (v : List (Outcome Meaning)) → Sound v → written_out (body_of v) ≡ pieces 0 v
unfolding together closer body_of
read_back v s =
    let whole : spelled (inner (bodies 0 v)) ++ [] ≡ pieces 0 v = subst (λ (l : List Body). spelled (inner (bodies 0 v)) ++ together l ≡ pieces 0 v) s.whole (one_apart (bodies 0 v) ∙ bodies-spelled 0 v) in
    let shut : spelled (inner (bodies 0 v)) ≡ written_out (inner (bodies 0 v)) ++ [] = shut-spelled by_stop (inner (bodies 0 v)) s.shut in
    rw (append-nil (written_out (inner (bodies 0 v)))) at (sym shut) ∙ (rw (append-nil (spelled (inner (bodies 0 v)))) at whole)

unfoldable AllEvents : List Body → Type 0
AllEvents [] = Unit
AllEvents (b ∷ bs) = OnlyEvents b × AllEvents bs

inner-events : (bs : List Body) → AllEvents bs → OnlyEvents (inner bs) × AllEvents (outer bs)
unfolding inner outer AllEvents OnlyEvents
inner-events [] p = (tt, tt)
inner-events (b ∷ bs) p = p

joined-events : (e : Event) (z : Kind) (bs : List Body) → kind_of e.meaning ≡ z → AllEvents bs → AllEvents (with_pair e z bs)
unfolding with_pair AllEvents OnlyEvents
joined-events e Kind.Event bs q p = let x = inner-events bs p in ((subst IsEvent (sym q) tt, x.0), x.1)
joined-events e (Kind.Hed n) bs q p = let x = inner-events bs p in let y = inner-events (outer bs) x.1 in ((x.0, y.0), y.1)
joined-events e Kind.Tal bs q p = (tt, p)
joined-events e (Kind.Def k) bs q p = let x = inner-events bs p in let y = inner-events (outer bs) x.1 in ((x.0, y.0), y.1)
joined-events e Kind.End bs q p = (tt, p)
joined-events e (Kind.Cal k) bs q p = inner-events bs p
joined-events e Kind.Hlt bs q p = let x = inner-events bs p in ((subst IsEvent (sym q) tt, x.0), x.1)
joined-events e (Kind.Bad n) bs q p = let x = inner-events bs p in ((subst IsEvent (sym q) tt, x.0), x.1)

bodies-events : (i : ℕ) (v : List (Outcome Meaning)) → AllEvents (bodies i v)
unfolding bodies AllEvents
bodies-events i [] = tt
bodies-events i (m ∷ ms) = joined-events (event_at i m) (kind_of m) (bodies (i + 1) ms) refl (bodies-events (i + 1) ms)

-- of any pairs at all
pub only-events : (v : List (Outcome Meaning)) → OnlyEvents (body_of v)
unfolding body_of
only-events v = (inner-events (bodies 0 v) (bodies-events 0 v)).0
