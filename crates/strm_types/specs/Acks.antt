-- Answers to ioctls that were obeyed, and ioctls that nobody waits for (streamio(7I): I_STR; STREAMS Programming Guide: M_IOCTL, M_IOCACK).
use Rattle.std.specs.Prelude.{ℕ, List, ◌++◌, drop, None}
use Rattle.strm_types.specs.declared.ioctls.Ioc.{Ioc}
use Rattle.strm_types.specs.declared.kinds.MsgKind.TheVariants.{Iocack}
use Rattle.strm_types.specs.Ioctls.{asking, ioc_bytes, ioctl_message}
use Rattle.strm_types.specs.Message.{Message}

-- what stands behind the header of an ioctl message
abbrev pub payload : List ℕ → List ℕ
payload bytes = drop 16 bytes

-- the header of the answer that a command was obeyed: its command and its number
abbrev pub acked : Ioc → Ioc
acked ioc = record ioc { error = 0; result = 0 }

-- that answer: an M_IOCACK, with what is given by it
abbrev pub ack_message : {C : Type 0} → Ioc → List ℕ → Message C
ack_message ioc given = record { kind = Iocack; band = 0; control = None; body = None; plain = ioc_bytes (acked ioc) ++ given }

-- the same command with the same payload as an M_IOCTL of number 0, which tells of a change: nobody waits for its answer
abbrev pub telling_message : {C : Type 0} → Ioc → List ℕ → Message C
telling_message ioc given = ioctl_message (asking ioc.command 0) given
