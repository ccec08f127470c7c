-- A body read in stored order, each phrase's value kept when its END is met and looked up at each CAL. For
-- code that plays nothing out; proofs/OnePass.antt shows that in an accepted voice it gives what
-- Playing.antt defines.
-- Read      what is made of a body, and of the phrases closed by then
-- reading   a body, where calls k is what is made of the phrase k closed before it
use Rattle.std.specs.Prelude.{ℕ}
use Rattle.bodies.specs.Bodies.{Body, done, event, repeat, phrase, call}
use Rattle.bodies.specs.Playing.{Interpretation, learn}

pub record Read (A : Type 0) : Type 0 where
  pub total : A
  pub phrases : ℕ → A

unfoldable pub reading : {A : Type 0} → Interpretation A → (ℕ → A) → Body → Read A
reading m calls (done c) = record { total = m.nothing; phrases = calls }
reading m calls (event e r) = record { total = m.plain e (reading m calls r).total; phrases = (reading m calls r).phrases }
reading m calls (repeat n i r) =
    record {
      total = m.repeated n (reading m calls i).total (reading m (reading m calls i).phrases r).total;
      phrases = (reading m (reading m calls i).phrases r).phrases;
    }
reading m calls (phrase k i r) =
    record {
      total = m.defined (reading m calls i).total (reading m (learn k (reading m calls i).total (reading m calls i).phrases) r).total;
      phrases = (reading m (learn k (reading m calls i).total (reading m calls i).phrases) r).phrases;
    }
reading m calls (call k r) = record { total = m.called (calls k) (reading m calls r).total; phrases = (reading m calls r).phrases }
