-- The statuses of a run.
use Rattle.std.specs.Prelude.{ℕ}
use Rattle.line_loop.specs.Ending.{Counts, EndsWithCause}
use Rattle.line_loop.specs.declared.ending.Ending.{Ending}
use Rattle.line_loop.specs.declared.ending.Ending.TheVariants as endings
use Rattle.run_ends.specs.declared.status.Status.{Status}
use Rattle.run_ends.specs.declared.status.Status.TheVariants.{Done, BadWords, BadSession, ReadFault, WriteFault, ShelfFault, NoMemory, InputLimit}

-- the exit status of the program
abbrev pub status_number : Status → ℕ
status_number Done = 0
status_number BadWords = 1
status_number BadSession = 2
status_number ReadFault = 3
status_number WriteFault = 4
status_number ShelfFault = 5
status_number NoMemory = 6
status_number InputLimit = 7

-- the status that an ending of the read loop leads to
abbrev pub status_of : Ending → Status
status_of endings.Done = Done
status_of endings.ReadFault = ReadFault
status_of endings.WriteFault = WriteFault
status_of endings.ContextFault = ShelfFault
status_of endings.NoMemory = NoMemory
status_of endings.InputLimit = InputLimit

-- and the ending that a status is like in what it blames and takes: a run that says something whole is done
abbrev pub ending_by : Status → Ending
ending_by Done = endings.Done
ending_by BadWords = endings.Done
ending_by BadSession = endings.Done
ending_by ReadFault = endings.ReadFault
ending_by WriteFault = endings.WriteFault
ending_by ShelfFault = endings.ContextFault
ending_by NoMemory = endings.NoMemory
ending_by InputLimit = endings.InputLimit

-- A fault is blamed only where that count rose and the two others stand. Every other status leaves all three.
abbrev pub HasStatusCause : Status → Counts → Counts → Type 0
HasStatusCause status old new = EndsWithCause (ending_by status) old new
