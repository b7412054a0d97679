-- The statuses of a run.
use Rattle.line_loop.specs.declared.ending.Ending.{Ending}
use Rattle.line_loop.specs.declared.ending.Ending.TheVariants as endings
use Rattle.run_ends.specs.declared.status.Status.{Status}
use Rattle.run_ends.specs.declared.status.Status.TheVariants as statuses
use Rattle.feeds_run.specs.declared.status.FeedStatus.{FeedStatus}
use Rattle.feeds_run.specs.declared.status.FeedStatus.TheVariants.{Done, BadWords, BadFeed, ReadFault, WriteFault, NoMemory, InputLimit}

-- The status of a run for one user that it is like, in what it blames, takes and says, and in the exit status of the program. A bad
-- feed is like a bad session; none is like a fault of the shelf, since no file is asked.
abbrev pub run_status : FeedStatus → Status
run_status Done = statuses.Done
run_status BadWords = statuses.BadWords
run_status BadFeed = statuses.BadSession
run_status ReadFault = statuses.ReadFault
run_status WriteFault = statuses.WriteFault
run_status NoMemory = statuses.NoMemory
run_status InputLimit = statuses.InputLimit

-- the status that an ending of the read loop leads to; there is no context that could fail
abbrev pub feed_status : Ending → FeedStatus
feed_status endings.Done = Done
feed_status endings.ReadFault = ReadFault
feed_status endings.WriteFault = WriteFault
feed_status endings.ContextFault = NoMemory
feed_status endings.NoMemory = NoMemory
feed_status endings.InputLimit = InputLimit

-- the status of a run that says something, by the one that tells how it was written: this one where all of it was
abbrev pub said_as : FeedStatus → Status → FeedStatus
said_as end statuses.Done = end
said_as end statuses.WriteFault = WriteFault
said_as end status = NoMemory
