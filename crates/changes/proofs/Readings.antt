-- What the command step makes of the measured words: an accepted 0x50, 0x52, 0x60 or 0x62 is the effect of its code,
-- and no other command but a reset alters them. So is an accepted 0x44, which does not. Any accepted code is one that
-- the list of its board has. Assumes nothing.
use Prim.Native.Nat.{ℕ}
use mathlib.Core.Path.{◌≡◌, refl, sym, ap, ◌∙◌}
use mathlib.Core.Bool.{Bool, true, false, cond, not, ◌&&◌, and-true, and-false, false≢true}
use mathlib.Core.List.{List, [], ◌∷◌}
use lib.Dec.{eqb, ltb}
use lib.IntN.{ℤ}
use lib.ListN.{length}
use borrow.Author.Tests.{eqb-true}
use Rattle.std.specs.Prelude.{Err}
use Rattle.laws.proofs.Cases.{cases}
use Rattle.kinds.specs.Kinds.{board_of, is_in}
use Rattle.wire.specs.Replies.{reply_of}
use Rattle.settings.specs.Table.{parameter_of}
use Rattle.settings.specs.declared.Parameter.{Parameter}
use Rattle.settings.specs.declared.Parameter.TheVariants.{ReadWrite, ReadOnly, Unknown}
use Rattle.modes.specs.declared.Limits.{Limits}
use Rattle.command.specs.Table.{command_table, find}
use Rattle.command.specs.Decode.{Decoded, fewer_than_four, header_is, code_of, id_of, get_by, getting, carried, header_of, listed, decode_of}
use Rattle.command.specs.declared.Refusal.{Refusal}
use Rattle.command.specs.declared.Refusal.TheVariants.{FewerThanFourBytes, InStartup, NotThisBoard, CodeNotListed, TooShort, WrongKey, WrongParameter, NotANumber}
use Rattle.command.proofs.Laws.{none, ◌and◌, at_code, table_codes, has_a_command}
use Rattle.memory.specs.Limits.{limits_of}
use Rattle.replies.specs.Layouts.{housekeeping_reply, abf_reply, battery_reply}
use Rattle.state.specs.Parts.{mode_of, words_of, in_units_of, packs_told_of}
use Rattle.state.specs.declared.parts.Board.{Board}
use Rattle.state.specs.declared.parts.Fresh.{Fresh}
use Rattle.state.specs.declared.parts.Measured.{Measured}
use Rattle.answers.specs.Answers as answers
use Rattle.answers.specs.Answers.{told_number, new, accepted_with, accepted_of, refused_of, not_this_board_of}
use Rattle.answers.specs.declared.Commanded.{Commanded}
use Rattle.effects.specs.Effects.{new_where, housekeeping_of, engineering_housekeeping_of, abf_of, battery_housekeeping_of, engineering_battery_housekeeping_of, parameter_answered, reported_of, run_of}
use Rattle.asking.specs.Checks.{is_startup}
use Rattle.commands.specs.Step.{transferred_of, commanded_of}
use Rattle.commands.proofs.Stepwise.{turned_down, decoded_of, stepped_of}
use Rattle.commands.proofs.Told.{Result, accepted, short, starting, elsewhere, refused, stepwise, result}
use Rattle.board.specs.Tick.{risen_of, changed_of, tripped_of}
use Rattle.unit.specs.declared.Machine.{Machine}
use Rattle.unit.specs.Runs.{Sample, told, after_step3}
use Rattle.groups.specs.Resets.{is_accepted}
use Rattle.groups.proofs.Done.{acting, Done, replies, shows_faults, operates, enters, remembers, restarts, Answers, refusing, accepting, does}
use Rattle.groups.proofs.Counts.{not_accepted}
use Rattle.changes.specs.Accepted.{accepts_one_of}
use Rattle.changes.proofs.Step.{both}
use Rattle.changes.proofs.Ticks.{commanded, accepted_leaves, told_0, step_0, code_is}

-- ---- the two ways in which measured words are told: as raw readings, and in units
pub data Part : Type 0 where
  as_raw in_units : Part

-- and the boards that tell them
pub data Owner : Type 0 where
  distribution battery : Owner

-- each has a code
abbrev pub code_for : Owner → Part → ℕ
code_for distribution as_raw = 0x50
code_for distribution in_units = 0x52
code_for battery as_raw = 0x60
code_for battery in_units = 0x62

-- those of one way
abbrev pub codes_for : Part → List ℕ
codes_for p = code_for distribution p ∷ code_for battery p ∷ []

-- have a memory of whether the words are new
abbrev pub is_new : Part → Fresh → Bool
is_new as_raw = λ f. f.raw
is_new in_units = λ f. f.engineering

-- what the code does to a board
abbrev reading_of : Owner → Part → Board → Commanded
reading_of distribution as_raw b = housekeeping_of 0x50 b
reading_of distribution in_units b = engineering_housekeeping_of 0x52 b
reading_of battery as_raw b = battery_housekeeping_of 0x60 b
reading_of battery in_units b = engineering_battery_housekeeping_of 0x62 b

-- the words that its reply lays out
abbrev pub words_for : Owner → Part → Board → List ℕ
words_for o as_raw b = words_of b
words_for distribution in_units b = in_units_of b
words_for battery in_units b = packs_told_of b

-- its STAT
abbrev pub stat_for : Part → Board → ℕ
stat_for p b = new_where (is_new p b.measured.fresh)

-- and its bytes
abbrev pub bytes_for : Owner → Part → Board → List ℕ
bytes_for distribution p b =
    housekeeping_reply (answers.header_of b.profile) (code_for distribution p) (stat_for p b) b.channels.on b.channels.latched (words_for distribution p b)
bytes_for battery p b = battery_reply (answers.header_of b.profile) (code_for battery p) (stat_for p b) (words_for battery p b)

-- they are the reply
reply_of_lem : (o : Owner) (p : Part) (b : Board) → (reading_of o p b).board.reply ≡ reply_of (bytes_for o p b)
unfolding housekeeping_of engineering_housekeeping_of battery_housekeeping_of engineering_battery_housekeeping_of accepted_with
reply_of_lem distribution as_raw b = refl
reply_of_lem distribution in_units b = refl
reply_of_lem battery as_raw b = refl
reply_of_lem battery in_units b = refl

-- a code ends its own memory, and leaves the other
ends : (p : Part) (o : Owner) (q : Part) (b : Board)
    → is_new p (reading_of o q b).board.measured.fresh ≡ (is_new p b.measured.fresh && not (is_in (code_for o q) (codes_for p)))
unfolding housekeeping_of engineering_housekeeping_of battery_housekeeping_of engineering_battery_housekeeping_of accepted_with is_in
ends as_raw distribution as_raw b = sym (and-false b.measured.fresh.raw)
ends as_raw distribution in_units b = sym (and-true b.measured.fresh.raw)
ends as_raw battery as_raw b = sym (and-false b.measured.fresh.raw)
ends as_raw battery in_units b = sym (and-true b.measured.fresh.raw)
ends in_units distribution as_raw b = sym (and-true b.measured.fresh.engineering)
ends in_units distribution in_units b = sym (and-false b.measured.fresh.engineering)
ends in_units battery as_raw b = sym (and-true b.measured.fresh.engineering)
ends in_units battery in_units b = sym (and-false b.measured.fresh.engineering)

-- the codes of which `Done` or this page says what becomes of the words
abbrev spoken_of : List ℕ
spoken_of = 0x50 ∷ 0x52 ∷ 0x60 ∷ 0x62 ∷ acting

module _ (rail : ℤ) (limits : Limits) (s : List ℕ) (b : Board) where
  -- answer 0 is told
  abbrev Accepted : Commanded → Type 0
  Accepted c = is_accepted (told_number c.outcome) ≡ true

  -- ---- what the decoder refuses is not accepted
  turned_down_lem : (k : ℕ) (r : Refusal) → is_accepted (told_number (turned_down k r b).outcome) ≡ false
  unfolding turned_down not_this_board_of refused_of
  turned_down_lem k FewerThanFourBytes = refl
  turned_down_lem k InStartup = refl
  turned_down_lem k NotThisBoard = refl
  turned_down_lem k CodeNotListed = refl
  turned_down_lem k TooShort = refl
  turned_down_lem k WrongKey = refl
  turned_down_lem k WrongParameter = refl
  turned_down_lem k NotANumber = refl

  -- so an accepted command is what stands behind a check
  behind : (Q : Commanded → Type 0) (k : ℕ) (t : Bool) (r : Refusal) (d : Decoded) → (Accepted (decoded_of rail limits k d b) → Q (decoded_of rail limits k d b))
      → Accepted (decoded_of rail limits k (cond t (Err r) d) b) → Q (decoded_of rail limits k (cond t (Err r) d) b)
  unfolding decoded_of
  behind Q k true r d q a = both (turned_down_lem k r) a
  behind Q k false r d q a = q a

  -- ---- every accepted transfer is that of the row of its code, which the list of its board has
  record FromTable (c : Commanded) : Type 0 where
    here : is_in (code_of s) (board_of b.profile.kind).codes ≡ true
    is : c ≡ decoded_of rail limits (code_of s) (listed (find command_table (code_of s)) s) b

  -- it came through the decoder's checks
  from_table : Accepted (commanded_of rail limits true s b) → FromTable (commanded_of rail limits true s b)
  unfolding commanded_of stepped_of decode_of decoded_of
  from_table =
      let code = code_of s in
      rw (stepwise rail limits s b)
      (behind FromTable code (fewer_than_four s) FewerThanFourBytes _
      (behind FromTable code (is_startup (mode_of b)) InStartup _
      (behind FromTable code (not (header_is (header_of b.profile.kind b.profile.bid) s)) NotThisBoard _
      (cases (is_in code (board_of b.profile.kind).codes)
      (λ here. rw here (λ a. record { here = here; is = refl }))
      (λ none_such. rw none_such (λ a. both (turned_down_lem code CodeNotListed) a))))))

  -- whether there is a transfer or not, the list has its code
  pub listed_code : (sent : Bool) → Accepted (commanded_of rail limits sent s b) → is_in (code_of s) (board_of b.profile.kind).codes ≡ true
  unfolding commanded_of
  listed_code false a = absurd (false≢true a)
  listed_code true a = (from_table a).here

  -- ---- some codes: in their rows stand their effects
  abbrev pub InRow : ℕ → (Board → Commanded) → Type 0
  InRow k effect =
      Accepted (decoded_of rail limits k (listed (find command_table k) s) b)
      → decoded_of rail limits k (listed (find command_table k) s) b ≡ effect b

  -- those that tell of the words
  pub in_row : (o : Owner) (p : Part) → InRow (code_for o p) (reading_of o p)
  unfolding listed find command_table carried decoded_of run_of reported_of
  in_row distribution as_raw = behind (λ c. c ≡ reading_of distribution as_raw b) 0x50 (ltb (length s) 4) TooShort _ (λ a. refl)
  in_row distribution in_units = behind (λ c. c ≡ reading_of distribution in_units b) 0x52 (ltb (length s) 4) TooShort _ (λ a. refl)
  in_row battery as_raw = behind (λ c. c ≡ reading_of battery as_raw b) 0x60 (ltb (length s) 4) TooShort _ (λ a. refl)
  in_row battery in_units = behind (λ c. c ≡ reading_of battery in_units b) 0x62 (ltb (length s) 4) TooShort _ (λ a. refl)

  -- and 0x44
  pub abf_in_row : InRow 0x44 (abf_of 0x44)
  unfolding listed find command_table carried decoded_of run_of reported_of
  abf_in_row = behind (λ c. c ≡ abf_of 0x44 b) 0x44 (ltb (length s) 4) TooShort _ (λ a. refl)

  -- an accepted one is that effect, whether there is a transfer or not
  pub runs : (k : ℕ) (effect : Board → Commanded) → InRow k effect → (sent : Bool) → Accepted (commanded_of rail limits sent s b) → eqb (code_of s) k ≡ true
      → commanded_of rail limits sent s b ≡ effect b
  unfolding commanded_of
  runs k effect row false a e = absurd (false≢true a)
  runs k effect row true a e =
      let c : code_of s ≡ k = eqb-true (code_of s) k e in
      let g : commanded_of rail limits true s b ≡ decoded_of rail limits k (listed (find command_table k) s) b = rw c at (from_table a).is in
      g ∙ row (rw g at a)

  -- ---- every other code leaves the words
  abbrev Keeps : Commanded → Type 0
  Keeps c = c.board.measured ≡ b.measured

  -- so the row of a code does, if nothing is said of that elsewhere
  abbrev Row : ℕ → Type 0
  Row k = is_in k spoken_of ≡ false → Accepted (decoded_of rail limits k (listed (find command_table k) s) b) → Keeps (decoded_of rail limits k (listed (find command_table k) s) b)

  -- 0x82
  got : (id : ℕ) (p : Parameter) → Accepted (decoded_of rail limits 0x82 (get_by id p) b) → Keeps (decoded_of rail limits 0x82 (get_by id p) b)
  unfolding decoded_of run_of reported_of parameter_answered accepted_with
  got id (ReadWrite t) a = refl
  got id (ReadOnly t) a = refl
  got id Unknown a = both (turned_down_lem 0x82 WrongParameter) a

  -- a code of which something is
  spoken : (k : ℕ) → is_in k spoken_of ≡ true → Row k
  spoken k h n = both n h

  -- by the table, code by code: 0x02, 0x06, 0x82 and 0x44 are the others
  others : (code : ℕ) → is_in code table_codes ≡ true → Row code
  unfolding listed find command_table is_in carried getting decoded_of run_of reported_of abf_of accepted_of accepted_with
  others code h =
      at_code Row code table_codes h
      (spoken 0xAA refl
      and (λ _. behind Keeps 0x02 (ltb (length s) 4) TooShort _ (λ a. refl))
      and spoken 0x04 refl
      and (λ _. behind Keeps 0x06 (ltb (length s) 4) TooShort _ (λ a. refl))
      and spoken 0x10 refl
      and spoken 0x12 refl
      and spoken 0x14 refl
      and spoken 0x16 refl
      and spoken 0x18 refl
      and spoken 0x30 refl
      and spoken 0x32 refl
      and spoken 0x42 refl
      and spoken 0x50 refl
      and (λ _. behind Keeps 0x82 (ltb (length s) 6) TooShort _ (got (id_of s) (parameter_of (id_of s))))
      and spoken 0x84 refl
      and spoken 0x86 refl
      and spoken 0x90 refl
      and spoken 0x92 refl
      and spoken 0x94 refl
      and spoken 0x52 refl
      and (λ _. behind Keeps 0x44 (ltb (length s) 4) TooShort _ (λ a. refl))
      and spoken 0x60 refl
      and spoken 0x62 refl
      and none)

  -- an accepted command of `Done`
  done : {k : ℕ} {after : Board} → Done rail limits s b k after → is_in k acting ≡ true → eqb k 0xAA ≡ false → after.measured ≡ b.measured
  done (replies r w quiet) h n = both quiet h
  done shows_faults h n = refl
  done (operates r o) h n = refl
  done (enters r e) h n = refl
  done (remembers r m) h n = refl
  done restarts h n = both n refl

  -- a refused one
  kept : {c : Commanded} → Result (code_of s) b c → is_accepted (told_number c.outcome) ≡ false → Keeps c
  unfolding not_this_board_of refused_of
  kept (accepted e z) n = both n (rw e)
  kept short n = refl
  kept starting n = refl
  kept elsewhere n = refl
  kept (refused answer h) n = refl

  -- any accepted one that is none of the codes that tell of them, nor a reset
  abbrev NoReading : Type 0
  NoReading = (o : Owner) (p : Part) → eqb (code_of s) (code_for o p) ≡ false

  keeps : Accepted (commanded_of rail limits true s b) → NoReading → eqb (code_of s) 0xAA ≡ false → Keeps (commanded_of rail limits true s b)
  unfolding is_in
  keeps a neither n =
      cases (is_in (code_of s) acting)
      (λ h. go h (does rail limits s b) a)
      (λ h.
      let f = from_table a in
      rw f.is (others (code_of s) (has_a_command b.profile.kind (code_of s) f.here) (rw (neither distribution as_raw, neither distribution in_units, neither battery as_raw, neither battery in_units) h) (rw f.is at a)))
    where
      go : is_in (code_of s) acting ≡ true → {c : Commanded} → Answers rail limits s b (Done rail limits s b (code_of s)) c → Accepted c → Keeps c
      go h (refusing m t left) e = both (rw t (not_accepted m)) e
      go h (accepting t d) e = done d h n

  -- ---- whether the words are new after the step, where something ended that or nothing did
  abbrev new_after : Part → Bool → Bool → Type 0
  new_after p sent ended = is_new p (commanded_of rail limits sent s b).board.measured.fresh ≡ (is_new p b.measured.fresh && not ended)

  -- words that stay are as new as they were
  as_before : (p : Part) → Keeps (commanded_of rail limits true s b) → new_after p true false
  as_before p e = ap (λ (w : Measured). is_new p w.fresh) e ∙ sym (and-true (is_new p b.measured.fresh))

  -- an accepted command ends that of its own code
  accepted_new : (p : Part) → Accepted (commanded_of rail limits true s b) → eqb (code_of s) 0xAA ≡ false → new_after p true (is_in (code_of s) (codes_for p))
  unfolding is_in
  accepted_new p a n =
      cases (eqb (code_of s) 0x50) (by distribution as_raw)
      (λ x. cases (eqb (code_of s) 0x52) (by distribution in_units)
      (λ y. cases (eqb (code_of s) 0x60) (by battery as_raw)
      (λ z. cases (eqb (code_of s) 0x62) (by battery in_units)
      (λ w. let neither = none_of x y z w in rw (neither distribution p, neither battery p) (as_before p (keeps a neither n))))))
    where
      by : (o : Owner) (q : Part) → eqb (code_of s) (code_for o q) ≡ true → new_after p true (is_in (code_of s) (codes_for p))
      by o q e =
          ap (λ (c : Commanded). is_new p c.board.measured.fresh) (runs (code_for o q) (reading_of o q) (in_row o q) true a e)
          ∙ ends p o q b
          ∙ ap (λ (k : ℕ). is_new p b.measured.fresh && not (is_in k (codes_for p))) (sym (eqb-true (code_of s) (code_for o q) e))

      none_of : eqb (code_of s) 0x50 ≡ false → eqb (code_of s) 0x52 ≡ false → eqb (code_of s) 0x60 ≡ false → eqb (code_of s) 0x62 ≡ false → NoReading
      none_of x y z w distribution as_raw = x
      none_of x y z w distribution in_units = y
      none_of x y z w battery as_raw = z
      none_of x y z w battery in_units = w

  -- and so does a tick's command, if it has one
  pub new_after_lem : (p : Part) (sent : Bool) → (is_accepted (told_number (commanded_of rail limits sent s b).outcome) && eqb (code_of s) 0xAA) ≡ false
      → new_after p sent (is_accepted (told_number (commanded_of rail limits sent s b).outcome) && is_in (code_of s) (codes_for p))
  unfolding commanded_of
  new_after_lem p false n = sym (and-true (is_new p b.measured.fresh))
  new_after_lem p true n =
      cases (is_accepted (told_number (transferred_of rail limits s b).outcome))
      (λ a. rw a (accepted_new p a (rw a at n)))
      (λ a. rw a (as_before p (kept (result rail limits s b) a)))

-- ---- a tick that accepts one code
module _ (m : Machine) (i : Sample) (k : ℕ) (a : accepts_one_of (k ∷ []) m i ≡ true) where
  -- its step does
  step_accepts : is_accepted (told_number (commanded m i).outcome) ≡ true
  step_accepts = ap is_accepted (step_0 m i k a)

  -- the list of its board has the code
  pub has_code : is_in k (board_of m.board.profile.kind).codes ≡ true
  unfolding tripped_of changed_of risen_of
  has_code =
      ap (λ (c : ℕ). is_in c (board_of m.board.profile.kind).codes) (sym (eqb-true (code_of i.transfer) k (code_is m i k a)))
      ∙ listed_code i.rail (limits_of m.board.memory) i.transfer (after_step3 m i) i.sent step_accepts

  -- and the reply that then waits is the one of its effect on the board that it finds
  reply_by : (effect : Board → Commanded) → InRow i.rail (limits_of m.board.memory) i.transfer (after_step3 m i) k effect
      → (told m i).machine.board.reply ≡ (effect (after_step3 m i)).board.reply
  reply_by effect row =
      ap (λ (b : Board). b.reply) (accepted_leaves m i (told_0 m i k a))
      ∙ ap (λ (c : Commanded). c.board.reply)
      (runs i.rail (limits_of m.board.memory) i.transfer (after_step3 m i) k effect row i.sent step_accepts (code_is m i k a))

-- one that tells of the words: it lays out those that the command finds
pub reply_is : (m : Machine) (i : Sample) (o : Owner) (p : Part) → accepts_one_of (code_for o p ∷ []) m i ≡ true
    → (told m i).machine.board.reply ≡ reply_of (bytes_for o p (after_step3 m i))
reply_is m i o p a =
    reply_by m i (code_for o p) a (reading_of o p) (in_row i.rail (limits_of m.board.memory) i.transfer (after_step3 m i) o p)
    ∙ reply_of_lem o p (after_step3 m i)

-- 0x44: it lays out whether the ABF is placed
pub abf_reply_is : (m : Machine) (i : Sample) → accepts_one_of (0x44 ∷ []) m i ≡ true
    → (told m i).machine.board.reply ≡ reply_of (abf_reply (answers.header_of m.board.profile) 0x44 new (board_of m.board.profile.kind).abf_placed)
unfolding abf_of accepted_with tripped_of changed_of risen_of
abf_reply_is m i a =
    reply_by m i 0x44 a (abf_of 0x44) (abf_in_row i.rail (limits_of m.board.memory) i.transfer (after_step3 m i))
