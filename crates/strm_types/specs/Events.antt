-- Calls and answers over what stands for their bytes: the bytes themselves, where they stand, or how many they are.
use Rattle.std.specs.Prelude.{ℕ, ◌≡◌, List, [], ◌++◌, Option, None, Some, option_map, ⊤}
use denote.Ref.{Bor}
use Rattle.strm_types.specs.declared.answers.Answer.{Answer}
use Rattle.strm_types.specs.declared.answers.Answer.TheVariants.{Done, Name, Count, Bytes, Msg, Sizes, Pending, Nak, Signals, Stop}
use Rattle.strm_types.specs.declared.events.Event.{Event}
use Rattle.strm_types.specs.declared.events.Event.TheVariants.{OpenMaster, Unlock, OpenSlave, Shut, Push, Pop, Look, Flush, Write, Read, Put, Get, Mode, Nread, Ioctl, IoctlResult}
use Rattle.strm_types.specs.declared.events.Event.TheVariants as events
use Rattle.strm_types.specs.Message.{part}

-- a call over other things that stand for its bytes
abbrev pub map_event : {A B : Type 0} → (A → B) → Event A → Event B
map_event f OpenMaster = OpenMaster
map_event f Unlock = Unlock
map_event f OpenSlave = OpenSlave
map_event f Shut = Shut
map_event f (Push name) = Push name
map_event f Pop = Pop
map_event f Look = Look
map_event f (Flush what band) = Flush what band
map_event f (Write bytes) = Write (f bytes)
map_event f (Read n) = Read n
map_event f (Put prio control body) = Put prio (option_map f control) (option_map f body)
map_event f (Get wanted cmax dmax) = Get wanted cmax dmax
map_event f (Mode mode) = Mode mode
map_event f Nread = Nread
map_event f (Ioctl command body) = Ioctl command (f body)
map_event f (IoctlResult number) = IoctlResult number
map_event f events.Signals = events.Signals

-- an answer over other things that stand for its bytes
abbrev pub map_answer : {A B : Type 0} → (A → B) → Answer A → Answer B
map_answer f Done = Done
map_answer f (Name name) = Name name
map_answer f (Count n) = Count n
map_answer f (Bytes bytes) = Bytes (f bytes)
map_answer f (Msg prio control body more_control more_data) = Msg prio (option_map f control) (option_map f body) more_control more_data
map_answer f (Sizes first messages) = Sizes first messages
map_answer f (Pending number) = Pending number
map_answer f (Nak refusal) = Nak refusal
map_answer f (Signals bytes) = Signals (f bytes)
map_answer f (Stop signal) = Stop signal

module _ {A B : Type 0} (R : A → B → Type 0) where
  -- two parts that both are there and related, or both absent
  abbrev pub PartsAlike : Option A → Option B → Type 0
  PartsAlike None None = ⊤
  PartsAlike (Some x) (Some y) = R x y
  PartsAlike _ _ = ⊥

  -- two calls that are one but for what stands for their bytes, which is related
  abbrev pub CallsAlike : Event A → Event B → Type 0
  CallsAlike OpenMaster OpenMaster = ⊤
  CallsAlike Unlock Unlock = ⊤
  CallsAlike OpenSlave OpenSlave = ⊤
  CallsAlike Shut Shut = ⊤
  CallsAlike (Push name) (Push name') = name ≡ name'
  CallsAlike Pop Pop = ⊤
  CallsAlike Look Look = ⊤
  CallsAlike (Flush what band) (Flush what' band') = (what ≡ what') × (band ≡ band')
  CallsAlike (Write x) (Write y) = R x y
  CallsAlike (Read n) (Read n') = n ≡ n'
  CallsAlike (Put prio control body) (Put prio' control' body') = (prio ≡ prio') × PartsAlike control control' × PartsAlike body body'
  CallsAlike (Get wanted cmax dmax) (Get wanted' cmax' dmax') = (wanted ≡ wanted') × (cmax ≡ cmax') × (dmax ≡ dmax')
  CallsAlike (Mode mode) (Mode mode') = mode ≡ mode'
  CallsAlike Nread Nread = ⊤
  CallsAlike (Ioctl command x) (Ioctl command' y) = (command ≡ command') × R x y
  CallsAlike (IoctlResult number) (IoctlResult number') = number ≡ number'
  CallsAlike events.Signals events.Signals = ⊤
  CallsAlike _ _ = ⊥

  -- two answers that are one but for what stands for their bytes, which is related
  abbrev pub AnswersAlike : Answer A → Answer B → Type 0
  AnswersAlike Done Done = ⊤
  AnswersAlike (Name name) (Name name') = name ≡ name'
  AnswersAlike (Count n) (Count n') = n ≡ n'
  AnswersAlike (Bytes x) (Bytes y) = R x y
  AnswersAlike (Msg prio control body more_control more_data) (Msg prio' control' body' more_control' more_data') =
      (prio ≡ prio') × PartsAlike control control' × PartsAlike body body' × (more_control ≡ more_control') × (more_data ≡ more_data')
  AnswersAlike (Sizes first messages) (Sizes first' messages') = (first ≡ first') × (messages ≡ messages')
  AnswersAlike (Pending number) (Pending number') = number ≡ number'
  AnswersAlike (Nak refusal) (Nak refusal') = refusal ≡ refusal'
  AnswersAlike (Signals x) (Signals y) = R x y
  AnswersAlike (Stop signal) (Stop signal') = signal ≡ signal'
  AnswersAlike _ _ = ⊥

-- a call with its bytes, and an answer with its bytes
abbrev pub Request : Type 0
Request = Event (List ℕ)

abbrev pub Reply : Type 0
Reply = Answer (List ℕ)

-- the call that an event makes
abbrev pub request : Event (Bor (List ℕ)) → Request
request event = map_event (λ bytes. bytes.now) event

-- the bytes of a call: the whole payload of a write, the control part of a putmsg and then its data part, what an ioctl sends
abbrev pub payload_of : Request → List ℕ
payload_of (Write bytes) = bytes
payload_of (Put prio control body) = part control ++ part body
payload_of (Ioctl command body) = body
payload_of _ = []

-- the bytes of an answer
abbrev pub content_of : Reply → List ℕ
content_of (Bytes bytes) = bytes
content_of (Msg prio control body more_control more_data) = part control ++ part body
content_of (Signals bytes) = bytes
content_of _ = []
