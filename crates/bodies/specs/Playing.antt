-- Document 01, 'Playing a voice': the played-out voice, its events, the pairs walked and the depth, by
-- recursion over bodies.
-- Interpretation      what is made of a body's parts: nothing more, an event, a repeat, a DEF where it stands
--                     and a CAL, each before the rest of the body
-- interpret           what is made of a body, where calls k is what is made of CAL k
-- learn, phrases      what is made of the bodies of the DEFs in a body, by number, each where it is defined
-- phrases_of           so for a whole voice
-- of_voice             what is made of a voice, its CALs by its DEFs: 'CAL k gives one copy of the body of
--                     DEF k'
-- copies              'n copies of the body played out, one behind the other'
-- playing, played     'An event gives itself. HED n, its body and its TAL give n copies .. DEF k, its body
--                     and its END give one copy. CAL k gives one copy'
-- events_of            'events': how many the played-out voice has
-- walking, walked_of   'Pairs walked: ordinary pair 1; repeat 1 + n × (body + 1); DEF to END, body + 2; CAL,
--                     body + 2'
-- nesting, depth_of    'Depth counts repeats and calls in progress at once'
use Rattle.std.specs.Prelude.{ℕ, zero, suc, ◌+◌, ◌*◌, max, List, [], ◌∷◌, ◌++◌, cond, eqb, length}
use Rattle.meaning.specs.declared.Meaning.{Meaning}
use Rattle.refusals.specs.Numbers.{Outcome}
use Rattle.bodies.specs.Bodies.{Event, Body, done, event, repeat, phrase, call, body_of}

pub record Interpretation (A : Type 0) : Type 0 where
  pub nothing : A
  pub plain : Event → A → A
  pub repeated : ℕ → A → A → A
  pub defined : A → A → A
  pub called : A → A → A

unfoldable pub interpret : {A : Type 0} → Interpretation A → (ℕ → A) → Body → A
interpret m calls (done c) = m.nothing
interpret m calls (event e r) = m.plain e (interpret m calls r)
interpret m calls (repeat n i r) = m.repeated n (interpret m calls i) (interpret m calls r)
interpret m calls (phrase k i r) = m.defined (interpret m calls i) (interpret m calls r)
interpret m calls (call k r) = m.called (calls k) (interpret m calls r)

abbrev pub learn : {A : Type 0} → ℕ → A → (ℕ → A) → ℕ → A
learn k a calls j = cond (eqb k j) a (calls j)

unfoldable pub phrases : {A : Type 0} → Interpretation A → (ℕ → A) → Body → ℕ → A
phrases m calls (done c) = calls
phrases m calls (event e r) = phrases m calls r
phrases m calls (repeat n i r) = phrases m (phrases m calls i) r
phrases m calls (phrase k i r) = phrases m (learn k (interpret m calls i) calls) r
phrases m calls (call k r) = phrases m calls r

abbrev pub phrases_of : {A : Type 0} → Interpretation A → List (Outcome Meaning) → ℕ → A
phrases_of m v = phrases m (λ k. m.nothing) (body_of v)

abbrev pub of_voice : {A : Type 0} → Interpretation A → List (Outcome Meaning) → A
of_voice m v = interpret m (phrases_of m v) (body_of v)

unfoldable pub copies : ℕ → List Event → List Event
copies zero es = []
copies (suc n) es = es ++ copies n es

abbrev pub playing : Interpretation (List Event)
playing =
    record {
      nothing = [];
      plain = λ e r. e ∷ r;
      repeated = λ n b r. copies n b ++ r;
      defined = λ b r. b ++ r;
      called = λ b r. b ++ r;
    }

abbrev pub walking : Interpretation ℕ
walking =
    record {
      nothing = 0;
      plain = λ e r. 1 + r;
      repeated = λ n b r. 1 + n * (b + 1) + r;
      defined = λ b r. b + 2 + r;
      called = λ b r. b + 2 + r;
    }

abbrev pub nesting : Interpretation ℕ
nesting =
    record {
      nothing = 0;
      plain = λ e r. r;
      repeated = λ n b r. max (1 + b) r;
      defined = λ b r. max b r;
      called = λ b r. max (1 + b) r;
    }

unfoldable pub played : List (Outcome Meaning) → List Event
played v = of_voice playing v

unfoldable pub events_of : List (Outcome Meaning) → ℕ
events_of v = length (played v)

unfoldable pub walked_of : List (Outcome Meaning) → ℕ
walked_of v = of_voice walking v

unfoldable pub depth_of : List (Outcome Meaning) → ℕ
depth_of v = of_voice nesting v
