-- Document 01, 'Playing a voice': what makes bodies and the played-out voice those of the stored pairs.
-- Acceptance shows all of it of each voice (`AcceptedVoice` of crates/mus/specs/AcceptedVoice.antt).
-- IsEvent, OnlyEvents   'Events are all pairs but HED, TAL, DEF, END, CAL': a kind, and all events of a body
-- TheOne                a body has one DEF of a number, and the number stands for what is made of that
--                       DEF's body
-- AllMean               each pair means something
-- EachEvent             something holds of each of some events
-- Goes, NoHlt           an event that is not HLT; none of some events is
-- EndsInHlt             events end in HLT, the last of n stored pairs, and no other event is HLT
use Rattle.std.specs.Prelude.{ℕ, ◌+◌, ◌≡◌, List, [], ◌∷◌, ◌++◌}
use Rattle.meaning.specs.declared.Meaning.{Meaning}
use Rattle.refusals.specs.Numbers.{Outcome}
use Rattle.refusals.specs.Numbers.Outcome.{accepted, refused}
use Rattle.kind.specs.declared.Kind.{Kind}
use Rattle.kind.specs.Kinds.{kind_of}
use Rattle.bodies.specs.Bodies.{Event, Body, done, event, repeat, phrase, call}
use Rattle.bodies.specs.Playing.{Interpretation, interpret}
use Rattle.bodies.specs.Order.{definitions}

abbrev pub IsEvent : Kind → Type 0
IsEvent Kind.Event = Unit
IsEvent (Kind.Hed n) = ⊥
IsEvent Kind.Tal = ⊥
IsEvent (Kind.Def k) = ⊥
IsEvent Kind.End = ⊥
IsEvent (Kind.Cal k) = ⊥
IsEvent Kind.Hlt = Unit
IsEvent (Kind.Bad n) = Unit

unfoldable pub OnlyEvents : Body → Type 0
OnlyEvents (done c) = Unit
OnlyEvents (event e r) = IsEvent (kind_of e.meaning) × OnlyEvents r
OnlyEvents (repeat n i r) = OnlyEvents i × OnlyEvents r
OnlyEvents (phrase k i r) = OnlyEvents i × OnlyEvents r
OnlyEvents (call k r) = OnlyEvents r

-- Of a body b; calls k is what number k stands for.
pub record TheOne {A : Type 0} (m : Interpretation A) (calls : ℕ → A) (k : ℕ) (b : Body) : Type 0 where
  pub body : Body
  -- It is the only body of a DEF k.
  pub only : definitions k b ≡ body ∷ []
  -- Number k stands for what is made of it.
  pub means : calls k ≡ interpret m calls body

unfoldable pub AllMean : List (Outcome Meaning) → Type 0
AllMean [] = Unit
AllMean (accepted m ∷ v) = AllMean v
AllMean (refused number place ∷ v) = ⊥

unfoldable pub EachEvent : (Event → Type 0) → List Event → Type 0
EachEvent P [] = Unit
EachEvent P (e ∷ es) = P e × EachEvent P es

abbrev pub Goes : Event → Type 0
Goes e = e.meaning ≡ accepted Meaning.Hlt → ⊥

unfoldable pub NoHlt : List Event → Type 0
NoHlt [] = Unit
NoHlt (e ∷ es) = (e.meaning ≡ accepted Meaning.Hlt → ⊥) × NoHlt es

pub record EndsInHlt (es : List Event) (n : ℕ) : Type 0 where
  pub before : List Event
  pub last : Event
  -- The events are some events, and then one.
  pub split : es ≡ before ++ last ∷ []
  -- That one is the last of n stored pairs.
  pub number : last.number + 1 ≡ n
  -- It is HLT.
  pub halts : last.meaning ≡ accepted Meaning.Hlt
  -- None before it is HLT.
  pub only : NoHlt before
