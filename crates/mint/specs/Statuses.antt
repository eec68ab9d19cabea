-- The numbers of statuses, and how a status ends a command.
use Rattle.std.specs.Prelude.{ℕ, Option, None, Some}
use Rattle.mt_service.specs.declared.outcomes.Outcome.{Outcome}
use Rattle.mt_service.specs.declared.outcomes.Outcome.TheVariants as outcome
use Rattle.mint.specs.declared.status.Status.{Status}
use Rattle.mint.specs.declared.status.Status.TheVariants.{Ok, Memory, Words, Refused, ReadFault, WriteFault, KeeperFault, BadStore, Outside, Device}

abbrev pub number_of_status : Status → ℕ
number_of_status Ok = 0
number_of_status Memory = 1
number_of_status Words = 2
number_of_status Refused = 3
number_of_status ReadFault = 4
number_of_status WriteFault = 5
number_of_status KeeperFault = 6
number_of_status BadStore = 7
number_of_status Outside = 8
number_of_status Device = 9

-- a command has written its whole text, or a part of it, or it was given up and has written nothing
pub data Ending : Type 0 where
  Finished CutOff GivenUp : Ending

abbrev pub ending : Status → Ending
ending Ok = Finished
ending Memory = GivenUp
ending Words = Finished
ending Refused = Finished
ending ReadFault = GivenUp
ending WriteFault = CutOff
ending KeeperFault = GivenUp
ending BadStore = Finished
ending Outside = Finished
ending Device = Finished

-- how an import ends that comes to this; the keeper's fault and want of memory give it up
abbrev pub status_of : Outcome → Option Status
status_of (outcome.Accepted n name raised tried) = Some Ok
status_of (outcome.Withdrawn n name lowered tried) = Some Ok
status_of (outcome.Already n name) = Some Ok
status_of (outcome.AlreadyWithdrawn n name) = Some Ok
status_of outcome.KeeperFault = None
status_of outcome.Memory = None
status_of o = Some Refused
