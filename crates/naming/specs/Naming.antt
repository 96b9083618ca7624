-- How a line names a mode, an event, an answer and a form: characters are their ASCII codes.
-- Assumes nothing: these are definitions.
use Rattle.std.specs.Prelude.{ℕ}
use Rattle.modes.specs.declared.Mode.{Mode}
use Rattle.watchdog.specs.declared.Event.{Event}
use Rattle.answers.specs.declared.Answer.{Answer}
use Rattle.wire.specs.declared.forms.Form.{Form}

-- U, N, F, E
abbrev pub mode_letter : Mode → ℕ
mode_letter Mode.Startup = 85
mode_letter Mode.Nominal = 78
mode_letter Mode.Safety = 70
mode_letter Mode.Emergency = 69

-- `-`, P, W
abbrev pub event_letter : Event → ℕ
event_letter Event.NoEvent = 45
event_letter Event.PeripheralReset = 80
event_letter Event.WatchdogReset = 87

-- 0 to 7, as document 01's command table numbers them
abbrev pub answer_digit : Answer → ℕ
answer_digit Answer.Accepted = 48
answer_digit Answer.FewerThanFourBytes = 49
answer_digit Answer.InStartup = 50
answer_digit Answer.NotThisBoard = 51
answer_digit Answer.CodeNotListed = 52
answer_digit Answer.TooShort = 53
answer_digit Answer.NotAvailable = 54
answer_digit Answer.Wrong = 55

-- R, A
abbrev pub form_letter : Form → ℕ
form_letter Form.Raw = 82
form_letter Form.Ascii = 65
