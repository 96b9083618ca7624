-- Document 01's number for each answer of framing. 0 stands for an answer that is no refusal. Assumes nothing: these
-- are definitions.
use Rattle.std.specs.Prelude.{ℕ, Result, Ok, Err}
use Rattle.framing.specs.declared.FrameRefusal.{FrameRefusal}
use Rattle.framing.specs.declared.FrameRefusal.TheVariants.{OutputTooShort}

abbrev pub framed_number : Result ℕ FrameRefusal → ℕ
framed_number (Ok n) = 0
framed_number (Err OutputTooShort) = 13
