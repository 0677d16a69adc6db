-- What a call asks for before it is carried out, told by its arguments alone: each call in one place.
use Rattle.std.specs.Prelude.{true, false, ◌+◌, min, nat_le, length, None, Some, is_some}
use Rattle.strm_types.specs.declared.limits.TheConstants.{CHANGE_BLOCKS, CLOSE_BLOCKS, IOCTL_BLOCKS, IOCTL_MAX, READ_MAX, SIGNALS_MAX, WRITE_BLOCKS}
use Rattle.strm_types.specs.declared.events.Event.TheVariants.{OpenMaster, Unlock, OpenSlave, Shut, Push, Pop, Flush, Write, Read, Put, Get, Ioctl, IoctlResult, Signals}
use Rattle.strm_types.specs.declared.needs.Access.TheVariants.{Reads, Writes}
use Rattle.strm_types.specs.declared.needs.Needs.{Needs}
use Rattle.strm_types.specs.declared.needs.Reach.{Reach}
use Rattle.strm_types.specs.declared.needs.Reach.TheVariants.{Nothing, Master, Own, Down}
use Rattle.strm_types.specs.declared.refusals.Refusal.TheVariants.{Einval, Erange}
use Rattle.strm_types.specs.Events.{Request, payload_of}
use Rattle.strm_types.specs.PutMsg.{put_blocks, put_refusal}
use Rattle.strm_types.specs.Refused.{unless}
use Rattle.strm_types.specs.Write.{chunk_count}

-- what is asked by a call that asks for a stream alone
abbrev pub only : Reach → Needs
only reach = record { reach = reach; masters = false; wrong = None; numbered = false; makes = false; brings = 0; gives = 0; blocks = 0; access = None }

-- what is asked by a call that changes a stream: what then goes down is made
abbrev pub change : Needs
change = record (only Down) { makes = true; blocks = CHANGE_BLOCKS }

-- what a call asks for beside the room for what it brings; where nothing else is said, the caller's stream alone
abbrev asks : Request → Needs
-- open(2) of the master asks for nothing, of the slave for an open master
asks OpenMaster = only Nothing
asks OpenSlave = only Master
-- unlockpt(3C) is a call of the master
asks Unlock = record (only Own) { masters = true }
-- close(2) asks for 2 blocks of each kind
asks Shut = record (only Own) { blocks = CLOSE_BLOCKS }
-- streamio(7I): I_PUSH takes the name of a module
asks (Push name) = record change { wrong = unless (is_some name) Einval }
asks Pop = change
asks (Flush what band) = change
-- write(2) and putmsg(2) ask for 32 blocks more than they may take, as what they send may make other messages
asks (Write bytes) = record (only Down) { makes = true; blocks = WRITE_BLOCKS + chunk_count (length bytes); access = Some Writes }
asks (Put prio control body) = record (only Down) { wrong = put_refusal prio control body; makes = true; blocks = WRITE_BLOCKS + put_blocks control body; access = Some Writes }
-- read(2) and getmsg(2) give as many bytes as they ask for, up to 4096 of each part
asks (Read n) = record (only Own) { gives = min n READ_MAX; access = Some Reads }
asks (Get wanted cmax dmax) = record (only Own) { gives = min cmax READ_MAX + min dmax READ_MAX; access = Some Reads }
-- I_STR sends 256 bytes at most, takes a number, and gives 256 bytes at most, as the question for its answer does
asks (Ioctl command body) = record (only Down) { wrong = unless (nat_le (length body) IOCTL_MAX) Erange; numbered = true; makes = true; gives = IOCTL_MAX; blocks = IOCTL_BLOCKS }
asks (IoctlResult number) = record (only Own) { gives = IOCTL_MAX }
-- each signal that waits is a byte
asks Signals = record (only Own) { gives = SIGNALS_MAX }
asks _ = only Own

-- what a call asks for
abbrev pub needs : Request → Needs
needs asked = record (asks asked) { brings = length (payload_of asked) }
