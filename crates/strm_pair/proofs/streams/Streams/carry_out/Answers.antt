-- Plain bytes have no origin: what goes down and what comes up are the bytes themselves.
use Rattle.strm_pair.proofs.Prelude.{ℕ, ◌≡◌, List, take, refl, sym, ap, ◌∙◌, arith, option_map, unless-none}
use Rattle.strm_pair.specs.Prelude.{Bytes, Open, Master, Einval, request, may_stand, named_by, refused_at_once, stands_of, unfit, State, stream}
use Rattle.std.proofs.Math.Seq.{take-length}
use denote.Ref.{Bor}
use Rattle.strm_types.specs.declared.events.Event.{Event}
use Rattle.strm_pair.specs.declared.streams.Streams.{Streams}
use Rattle.strm_pair.specs.Pairs.{state_in, end_at}
use Rattle.strm_pair.proofs.Refusing.{few-asked, number-left, put-in_range}
use Rattle.strm_pair.proofs.CallsStand.{flush-stands, get-stands, ioctl-stands, master-stands, mode-stands, put-stands, read-stands, signals-stand}
use Rattle.strm_pair.proofs.CallsStand.{slave-stands, told-stands, write-stands}
use Rattle.strm_pair.proofs.ShelfSteps.{stocked-same}
use Rattle.strm_pair.proofs.Sides.{held-with, set-state}
use Rattle.strm_pair.proofs.Leading.{leads-alone}
use Rattle.strm_pair.proofs.streams.Streams.carry_out.Goals as goal

pub returns-in-Write-clause-answer : goal.returns-in-Write-clause-answer
returns-in-Write-clause-answer g c = rw c.in-Write.is c.write.ensures.answer

pub returns-in-Read-clause-answer : goal.returns-in-Read-clause-answer
returns-in-Read-clause-answer g c =
    let out = c.read.new.out.items in
    let whole : take c.len.result out ≡ out = ap (λ n. take n out) c.len.ensures.value ∙ take-length out in
    rw c.in-Read.is (ap Bytes whole ∙ c.read.ensures.answer)

pub returns-in-Ioctl-clause-answer : goal.returns-in-Ioctl-clause-answer
returns-in-Ioctl-clause-answer g c = rw c.in-Ioctl.is c.ioctl.ensures.answer

pub ioctl-requires-clause-small : goal.ioctl-requires-clause-small
ioctl-requires-clause-small g c =
    let old = state_in (g.B.Blocks.value c.args.store.now) c.args.self.now in
    few-asked old c.args.caller c.in-Ioctl.command c.in-Ioctl.body.now
    (ap (λ (e : Event (Bor (List ℕ))). refused_at_once old c.args.caller (request e)) (sym c.in-Ioctl.is) ∙ c.requires.allowed)

pub ioctl-requires-clause-numbered : goal.ioctl-requires-clause-numbered
ioctl-requires-clause-numbered g c =
    let old = state_in (g.B.Blocks.value c.args.store.now) c.args.self.now in
    number-left old c.args.caller c.in-Ioctl.command c.in-Ioctl.body.now
    (ap (λ (e : Event (Bor (List ℕ))). refused_at_once old c.args.caller (request e)) (sym c.in-Ioctl.is) ∙ c.requires.allowed)

pub push-requires-clause-may_stand : goal.push-requires-clause-may_stand
push-requires-clause-may_stand g c =
    let old = state_in (g.B.Blocks.value c.args.store.now) c.args.self.now in
    unless-none (may_stand (named_by g.M.Behaves.does c.in-Push.name) (stream c.args.caller.side old).modules) Einval
    (ap (λ (e : Event (Bor (List ℕ))). unfit g.M.Behaves.does old c.args.caller (request e)) (sym c.in-Push.is) ∙ c.requires.fits)

pub returns-in-Look-clause-answer : goal.returns-in-Look-clause-answer
returns-in-Look-clause-answer g c = rw c.in-Look.is (c.look.ensures.answer (g.B.Blocks.value c.args.store.now) c.clear.new.self.items)

-- what deliveries make of the books
pub returns-in-Flush-clause-left : goal.returns-in-Flush-clause-left
returns-in-Flush-clause-left g c = rw c.in-Flush.is (omega (arith, c.flush.ensures.delivers.left))

pub returns-in-Write-clause-left : goal.returns-in-Write-clause-left
returns-in-Write-clause-left g c = rw c.in-Write.is (omega (arith, c.write.ensures.delivers.left))

pub returns-in-Put-clause-left : goal.returns-in-Put-clause-left
returns-in-Put-clause-left g c = rw c.in-Put.is (omega (arith, c.putmsg.ensures.delivers.left))

pub returns-in-Ioctl-clause-left : goal.returns-in-Ioctl-clause-left
returns-in-Ioctl-clause-left g c = rw c.in-Ioctl.is c.ioctl.ensures.delivers.left

-- what each call leads to
pub returns-in-Write-clause-leads : goal.returns-in-Write-clause-leads
returns-in-Write-clause-leads g c = rw c.in-Write.is c.write.ensures.delivers.leads

pub returns-in-Ioctl-clause-leads : goal.returns-in-Ioctl-clause-leads
returns-in-Ioctl-clause-leads g c = rw c.in-Ioctl.is c.ioctl.ensures.delivers.leads

pub putmsg-requires-clause-may : goal.putmsg-requires-clause-may
putmsg-requires-clause-may g c =
    let old = state_in (g.B.Blocks.value c.args.store.now) c.args.self.now in
    let now : Bor (List ℕ) → List ℕ = λ bytes. bytes.now in
    record {
      rests = c.requires.rests;
      room = rw c.in-Put.is at c.requires.room;
      range = put-in_range old c.args.caller c.in-Put.prio (option_map now c.in-Put.control) (option_map now c.in-Put.body)
          (ap (λ (e : Event (Bor (List ℕ))). refused_at_once old c.args.caller (request e)) (sym c.in-Put.is) ∙ c.requires.allowed);
    }

pub returns-in-OpenMaster-clause-leads : goal.returns-in-OpenMaster-clause-leads
returns-in-OpenMaster-clause-leads g c =
    let s = g.B.Blocks.value c.args.store.now in
    let p = c.args.self.now in
    let is = c.requires.rests.held.beside Master in
    rw (c.in-OpenMaster.is, c.open_master.ensures.streams)
    (record {
      state = refl;
      tells = refl;
      held = held-with s p Master (record (end_at Master p) { opened = Open }) c.requires.rests.held (record {
        head_list = is.head_list;
        driver_list = is.driver_list;
        head = is.head;
        driver = is.driver;
        stack = is.stack;
        once = is.once;
        lists = is.lists;
      });
      pool = record { mblks = refl; dblks = refl };
    })

pub returns-in-OpenSlave-clause-leads : goal.returns-in-OpenSlave-clause-leads
returns-in-OpenSlave-clause-leads g c = rw c.in-OpenSlave.is (c.open_slave.ensures.leads c.args.told.now)

pub returns-in-Mode-clause-leads : goal.returns-in-Mode-clause-leads
returns-in-Mode-clause-leads g c =
    rw c.in-Mode.is (leads-alone _ (g.B.Blocks.value c.args.store.now) c.args.self.now c.set_mode.new.self c.args.told.now c.requires.rests.held c.set_mode.ensures)

pub returns-in-IoctlResult-clause-leads : goal.returns-in-IoctlResult-clause-leads
returns-in-IoctlResult-clause-leads g c =
    rw c.in-IoctlResult.is (leads-alone _ (g.B.Blocks.value c.args.store.now) c.args.self.now c.tell_ioctl.new.self c.args.told.now c.requires.rests.held c.tell_ioctl.ensures.becomes)

pub returns-in-Signals-clause-leads : goal.returns-in-Signals-clause-leads
returns-in-Signals-clause-leads g c =
    rw c.in-Signals.is (leads-alone _ (g.B.Blocks.value c.args.store.now) c.args.self.now c.take_signals.new.self c.args.told.now c.requires.rests.held c.take_signals.ensures.becomes)

-- the modules that stand stay, and the tables on the shelf
pub returns-in-OpenMaster-clause-stocked : goal.returns-in-OpenMaster-clause-stocked
returns-in-OpenMaster-clause-stocked g c =
    let q = g.M.OwnModule.queued in
    let s = g.B.Blocks.value c.args.store.now in
    let st = state_in s c.args.self.now in
    stocked-same q c.args.shelf.now (stands_of st) (stands_of (state_in s c.open_master.new.self))
    (ap (λ (p : Streams). stands_of (state_in s p)) c.open_master.ensures.streams ∙ ap (λ (v : State ℕ). stands_of v) (set-state s c.args.self.now Master (record (end_at Master c.args.self.now) { opened = Open })) ∙ master-stands st) c.requires.stocked

pub returns-in-Unlock-clause-stocked : goal.returns-in-Unlock-clause-stocked
returns-in-Unlock-clause-stocked g c =
    let q = g.M.OwnModule.queued in
    let s = g.B.Blocks.value c.args.store.now in
    let st = state_in s c.args.self.now in
    stocked-same q c.args.shelf.now (stands_of st) (stands_of (state_in s c.unlock.new.self))
    (ap (λ (p : Streams). stands_of (state_in s p)) c.unlock.ensures.streams) c.requires.stocked

pub returns-in-OpenSlave-clause-stocked : goal.returns-in-OpenSlave-clause-stocked
returns-in-OpenSlave-clause-stocked g c =
    let q = g.M.OwnModule.queued in
    let s = g.B.Blocks.value c.args.store.now in
    let st = state_in s c.args.self.now in
    stocked-same q c.args.shelf.now (stands_of st) (stands_of (state_in (g.B.Blocks.value c.open_slave.new.store) c.open_slave.new.self))
    (ap (λ (v : State ℕ). stands_of v) (c.open_slave.ensures.leads c.args.told.now).state ∙ slave-stands st) c.requires.stocked

pub returns-in-Flush-clause-stocked : goal.returns-in-Flush-clause-stocked
returns-in-Flush-clause-stocked g c =
    let q = g.M.OwnModule.queued in
    let s = g.B.Blocks.value c.args.store.now in
    let st = state_in s c.args.self.now in
    stocked-same q c.args.shelf.now (stands_of st) (stands_of (state_in (g.B.Blocks.value c.flush.new.store) c.flush.new.self))
    (ap (λ (v : State ℕ). stands_of v) c.flush.ensures.delivers.leads.state ∙ flush-stands g.M.Behaves.does c.args.caller.side c.in-Flush.band c.in-Flush.what st) c.requires.stocked

pub returns-in-Write-clause-stocked : goal.returns-in-Write-clause-stocked
returns-in-Write-clause-stocked g c =
    let q = g.M.OwnModule.queued in
    let s = g.B.Blocks.value c.args.store.now in
    let st = state_in s c.args.self.now in
    stocked-same q c.args.shelf.now (stands_of st) (stands_of (state_in (g.B.Blocks.value c.write.new.store) c.write.new.self))
    (ap (λ (v : State ℕ). stands_of v) c.write.ensures.delivers.leads.state ∙ write-stands g.M.Behaves.does c.args.caller.side _ st) c.requires.stocked

pub returns-in-Read-clause-stocked : goal.returns-in-Read-clause-stocked
returns-in-Read-clause-stocked g c =
    let q = g.M.OwnModule.queued in
    let s = g.B.Blocks.value c.args.store.now in
    let st = state_in s c.args.self.now in
    stocked-same q c.args.shelf.now (stands_of st) (stands_of (state_in (g.B.Blocks.value c.read.new.store) c.read.new.self))
    (ap (λ (v : State ℕ). stands_of v) c.read.ensures.leads.state ∙ read-stands c.args.caller.side c.in-Read.n st) c.requires.stocked

pub returns-in-Put-clause-stocked : goal.returns-in-Put-clause-stocked
returns-in-Put-clause-stocked g c =
    let q = g.M.OwnModule.queued in
    let s = g.B.Blocks.value c.args.store.now in
    let st = state_in s c.args.self.now in
    stocked-same q c.args.shelf.now (stands_of st) (stands_of (state_in (g.B.Blocks.value c.putmsg.new.store) c.putmsg.new.self))
    (ap (λ (v : State ℕ). stands_of v) c.putmsg.ensures.delivers.leads.state ∙ put-stands g.M.Behaves.does c.args.caller.side _ _ _ st) c.requires.stocked

pub returns-in-Get-clause-stocked : goal.returns-in-Get-clause-stocked
returns-in-Get-clause-stocked g c =
    let q = g.M.OwnModule.queued in
    let s = g.B.Blocks.value c.args.store.now in
    let st = state_in s c.args.self.now in
    stocked-same q c.args.shelf.now (stands_of st) (stands_of (state_in (g.B.Blocks.value c.getmsg.new.store) c.getmsg.new.self))
    (ap (λ (v : State ℕ). stands_of v) c.getmsg.ensures.leads.state ∙ get-stands c.args.caller.side _ _ _ st) c.requires.stocked

pub returns-in-Mode-clause-stocked : goal.returns-in-Mode-clause-stocked
returns-in-Mode-clause-stocked g c =
    let q = g.M.OwnModule.queued in
    let s = g.B.Blocks.value c.args.store.now in
    let st = state_in s c.args.self.now in
    stocked-same q c.args.shelf.now (stands_of st) (stands_of (state_in s c.set_mode.new.self))
    (ap (λ (v : State ℕ). stands_of v) (c.set_mode.ensures.state s) ∙ mode-stands c.args.caller.side _ st) c.requires.stocked

pub returns-in-Ioctl-clause-stocked : goal.returns-in-Ioctl-clause-stocked
returns-in-Ioctl-clause-stocked g c =
    let q = g.M.OwnModule.queued in
    let s = g.B.Blocks.value c.args.store.now in
    let st = state_in s c.args.self.now in
    stocked-same q c.args.shelf.now (stands_of st) (stands_of (state_in (g.B.Blocks.value c.ioctl.new.store) c.ioctl.new.self))
    (ap (λ (v : State ℕ). stands_of v) c.ioctl.ensures.delivers.leads.state ∙ ioctl-stands g.M.Behaves.does c.args.caller.side _ _ st) c.requires.stocked

pub returns-in-IoctlResult-clause-stocked : goal.returns-in-IoctlResult-clause-stocked
returns-in-IoctlResult-clause-stocked g c =
    let q = g.M.OwnModule.queued in
    let s = g.B.Blocks.value c.args.store.now in
    let st = state_in s c.args.self.now in
    stocked-same q c.args.shelf.now (stands_of st) (stands_of (state_in s c.tell_ioctl.new.self))
    (ap (λ (v : State ℕ). stands_of v) (c.tell_ioctl.ensures.becomes.state s) ∙ told-stands c.args.caller.side st) c.requires.stocked

pub returns-in-Signals-clause-stocked : goal.returns-in-Signals-clause-stocked
returns-in-Signals-clause-stocked g c =
    let q = g.M.OwnModule.queued in
    let s = g.B.Blocks.value c.args.store.now in
    let st = state_in s c.args.self.now in
    stocked-same q c.args.shelf.now (stands_of st) (stands_of (state_in s c.take_signals.new.self))
    (ap (λ (v : State ℕ). stands_of v) (c.take_signals.ensures.becomes.state s) ∙ signals-stand c.args.caller.side st) c.requires.stocked
