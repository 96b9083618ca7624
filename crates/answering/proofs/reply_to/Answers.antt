-- Page by page.
use Rattle.answering.specs.Answering.{reply_to}
use Rattle.answering.proofs.reply_to.Goals as goal

pub returns-in-Short : goal.returns-in-Short
unfolding reply_to
returns-in-Short c = rw (c.in-Short.is, c.short.ensures, c.stat_told.ensures, c.header.ensures)

pub returns-in-Faults : goal.returns-in-Faults
unfolding reply_to
returns-in-Faults c = rw (c.in-Faults.is, c.faults.ensures, c.counts.ensures, c.latched.ensures, c.on.ensures, c.header.ensures)

pub returns-in-Housekeeping : goal.returns-in-Housekeeping
unfolding reply_to
returns-in-Housekeeping c = rw (c.in-Housekeeping.is, c.housekeeping.ensures, c.header.ensures)

pub returns-in-Parameter : goal.returns-in-Parameter
unfolding reply_to
returns-in-Parameter c = rw (c.in-Parameter.is, c.parameter.ensures, c.value_read-value.ensures.read, c.header.ensures)

pub returns-in-EngineeringHousekeeping : goal.returns-in-EngineeringHousekeeping
unfolding reply_to
returns-in-EngineeringHousekeeping c = rw (c.in-EngineeringHousekeeping.is, c.engineering_housekeeping.ensures, c.header.ensures)

pub returns-in-AbfPlacedState : goal.returns-in-AbfPlacedState
unfolding reply_to
returns-in-AbfPlacedState c = rw (c.in-AbfPlacedState.is, c.abf.ensures, c.abf_placed.ensures, c.header.ensures)

pub returns-in-BatteryHousekeeping : goal.returns-in-BatteryHousekeeping
unfolding reply_to
returns-in-BatteryHousekeeping c = rw (c.in-BatteryHousekeeping.is, c.battery_housekeeping.ensures, c.header.ensures)

pub returns-in-EngineeringBatteryHousekeeping : goal.returns-in-EngineeringBatteryHousekeeping
unfolding reply_to
returns-in-EngineeringBatteryHousekeeping c = rw (c.in-EngineeringBatteryHousekeeping.is, c.engineering_battery_housekeeping.ensures, c.header.ensures)
