-- When a machine is set up, and when that is refused. Assumes nothing.
use Rattle.std.proofs.Common.{◌≡◌, true, false, is_some, Some, None, refl}
use Rattle.memory.specs.Checks.{first_no}
use Rattle.memory.specs.Meaning.{is_new}
use Rattle.protocol.specs.declared.answer.Answer.TheVariants.{Done, Refused}
use Rattle.protocol.specs.declared.answer.Refusal.TheVariants.{AlreadySetUp, SettingsOutOfRange, MemoryNotNew}
use Rattle.protocol.specs.declared.call.Call.TheVariants.{SetUp}
use Rattle.protocol.specs.declared.settings.Settings.{Settings}
use Rattle.protocol.specs.Calls.{Performs}
use Rattle.protocol.specs.Settings.{in_range}
use Rattle.protocol.specs.Steps.{told_nothing}
use Rattle.protocol.specs.Tables.{State, first_tables}
use Rattle.protocol.specs.Transition.{checks_of, sets_up}
use Rattle.protocol.proofs.CallsKept.{performed}
use Rattle.tables.proofs.Admission.{refused}

module _ (s : State) (z : Settings) where
  pub set_up_again : is_some s.tables ≡ true → Performs s s (SetUp z) (Refused AlreadySetUp)
  set_up_again e = refused (rw e refl)

  pub set_up_range : is_some s.tables ≡ false → in_range z ≡ false → Performs s s (SetUp z) (Refused SettingsOutOfRange)
  set_up_range e f = refused (rw (e, f) refl)

  pub set_up_old : is_some s.tables ≡ false → in_range z ≡ true → is_new s.memory ≡ false → Performs s s (SetUp z) (Refused MemoryNotNew)
  set_up_old e f n = refused (rw (e, f, n) refl)

  pub set_up_done : (s' : State) → is_some s.tables ≡ false → in_range z ≡ true → is_new s.memory ≡ true → s'.memory ≡ s.memory → s'.tables ≡ Some (first_tables z) → Performs s s' (SetUp z) Done
  set_up_done s' e f n same first =
      let passes : first_no (checks_of (SetUp z) s) ≡ None = rw (e, f, n) refl in
      performed (record { told = told_nothing; trans = sets_up passes same first })
