-- No answer has more bytes than its call asks room for, and room for those there is.
use Rattle.std.proofs.Common.{ℕ, ◌≡◌, ◌≤◌, ◌+◌, Bool, true, false, cond, leb, List, [], ◌∷◌, length, drop, refl, sym, subst, ap, ◌∙◌, arith}
use Rattle.std.specs.Prelude.{min, Option, None, Some, option_map, Ok}
use Rattle.std.proofs.lemmas.List.{length-map}
use Rattle.std.proofs.Common.{length-append}
use Rattle.std.proofs.lemmas.Bool.Decides.{nat_tests}
use Rattle.strm_types.specs.declared.answers.Answer.{Answer}
use Rattle.strm_types.specs.declared.entries.Entry.TheVariants.{Called}
use Rattle.strm_types.specs.declared.events.Caller.{Caller}
use Rattle.strm_types.specs.declared.events.Event.TheVariants.{Look, Read, Get, Ioctl, IoctlResult, Signals, OpenMaster, OpenSlave}
use Rattle.strm_types.specs.declared.limits.TheConstants.{READ_MAX}
use Rattle.strm_types.specs.declared.modes.Wanted.{Wanted}
use Rattle.strm_types.specs.declared.names.ModuleName.{ModuleName}
use Rattle.strm_types.specs.declared.names.Side.{Side}
use Rattle.strm_types.specs.Cells.{bytes_of, plain}
use Rattle.strm_types.specs.Events.{Request, content_of}
use Rattle.strm_types.specs.Gets.{head_get}
use Rattle.strm_types.specs.Journal.{answer_len, content_max, reply_in}
use Rattle.strm_types.specs.Message.{part}
use Rattle.strm_types.specs.Reads.{head_draw}
use Rattle.strm_types.proofs.ReadKeeps.{head_draw-most}
use Rattle.strm_laws.proofs.NoOwn.{none as no_own}
use Rattle.strm_laws.specs.Calls.{called, get_at, name_told, performed, read_at}
use Rattle.strm_laws.specs.Pair.{PairState, AddsEntry}
use Rattle.strm_laws.specs.Pushes.{top_on}
use Rattle.strm_laws.specs.State.{State, stream}
use Rattle.strm_laws.proofs.AnswersFit.{content-fits}
use Rattle.strm_laws.proofs.GetKeeps.{get-control, get-data}
use Rattle.strm_laws.proofs.JournalEntries.{room_used-stored}
use Rattle.strm_laws.proofs.Stopping.{of-called}
use Rattle.strm_minors.specs.Openers.{Holding}
use Rattle.strm_locks.specs.Ends.{Calls, Share}
use Rattle.strm_locks.specs.Systems.{Numbered, Plan, numbered}
use Rattle.strm_handle.specs.declared.asks.Ask.{Ask}
use Rattle.strm_handle.specs.Calls.{answer_in, brought, event_at}
use Rattle.strm_ends.specs.declared.hold.Hold.TheVariants.{End}
use Rattle.strm_ends.specs.Calling.{CallsEnd, CallsOf, IsAnswered, KeepsFew, Told, TellsAnswer, asked_by}
use Rattle.strm_ends.specs.Calling as calling
use Rattle.strm_ends.specs.Members.{InHand, Seated, seated}

part-bytes : (o : Option (List ℕ)) → length (part (option_map (bytes_of plain) o)) ≡ length (part o)
part-bytes None = refl
part-bytes (Some xs) = length-map xs plain.byte

-- a read and a get give no more than they ask for, whatever the pair keeps
read-fits : (side : Side) (n : ℕ) (s : State ℕ) → length (content_of (read_at plain side n s).answer) ≤ min n READ_MAX
read-fits side n s =
    let h = (stream side s).head in
    let q = h.queue.messages in
    let most = min n READ_MAX in
    let drawn = head_draw h.read_mode h.control_mode most q in
    omega (arith, length-map drawn.given plain.byte, head_draw-most h.read_mode h.control_mode most q)

get-fits : (side : Side) (wanted : Wanted) (cmax dmax : ℕ) (s : State ℕ)
    → length (content_of (get_at plain side wanted cmax dmax s).answer) ≤ min cmax READ_MAX + min dmax READ_MAX
get-fits side wanted cmax dmax s =
    let q = (stream side s).head.queue.messages in
    let c = min cmax READ_MAX in
    let d = min dmax READ_MAX in
    let g = head_get wanted c d q in
    omega (
      arith,
      length-append (part (option_map (bytes_of plain) g.control)) (part (option_map (bytes_of plain) g.body)),
      part-bytes g.control,
      part-bytes g.body,
      get-control wanted c d q,
      get-data wanted c d q,
    )

name-fits : (name : Option ModuleName) → length (content_of (name_told name)) ≤ 0
name-fits None = omega arith
name-fits (Some name) = omega arith

called-fits : (caller : Caller) (asked : Request) (s : State ℕ)
    → length (content_of (performed no_own plain caller asked s).answer) ≤ content_max asked
    → length (content_of (called no_own plain caller asked s).answer) ≤ content_max asked
called-fits caller asked s fits =
    of-called no_own plain caller asked s (λ outcome. length (content_of outcome.answer) ≤ content_max asked) (λ signal. omega arith) fits

few-fits : (caller : Caller) (asked : Request) (s : State ℕ)
    → KeepsFew asked s → length (content_of (called no_own plain caller asked s).answer) ≤ content_max asked
few-fits caller (Ioctl command body) s few = content-fits plain no_own caller (Ioctl command body) s few
few-fits caller (IoctlResult number) s few = content-fits plain no_own caller (IoctlResult number) s few
few-fits caller Signals s few = content-fits plain no_own caller Signals s few
few-fits caller Look s few = called-fits caller Look s (name-fits (top_on caller.side s))
few-fits caller (Read n) s few = called-fits caller (Read n) s (read-fits caller.side n s)
few-fits caller (Get wanted cmax dmax) s few = called-fits caller (Get wanted cmax dmax) s (get-fits caller.side wanted cmax dmax s)
few-fits caller asked s few = called-fits caller asked s (omega arith)

-- the bytes of an answer are as many as its buffer holds
content-length : (caller : Caller) (answer : Answer ℕ) (content : List ℕ)
    → answer_len answer ≡ length content → length (content_of (reply_in answer content)) ≡ length content
content-length caller answer content filled =
    let used = room_used-stored (Called caller Look answer ∷ []) content (omega (arith, filled)) in omega (arith, used)

-- and no more than the call asks room for
content-few : (old new : PairState) (caller : Caller) (asked : Request) (answer : Answer ℕ) (content : List ℕ)
    → KeepsFew asked old.state → AddsEntry no_own old new (Called caller asked (reply_in answer content))
    → answer_len answer ≡ length content → length content ≤ content_max asked
content-few old new caller asked answer content few adds filled =
    subst (λ n. n ≤ content_max asked)
    (ap (λ a. length (content_of a)) adds.step.answered ∙ content-length caller answer content filled)
    (few-fits caller asked old.state few)

-- what an end calls has room for its greatest answer
fitting-room : (room : ℕ) (asked found : Request) → calling.fitting room asked ≡ Some found → content_max found ≤ room
fitting-room room asked found is = at (leb (content_max asked) room) refl is
  where
    at : (b : Bool) → leb (content_max asked) room ≡ b → cond b (Some asked) None ≡ Some found → content_max found ≤ room
    at true small same =
        let fits : content_max asked ≤ room = grind (arith, nat_tests) in
        let here : asked ≡ found = (cc) in
        subst (λ (e : Request). content_max e ≤ room) here fits
    at false small same = absurd (cc)

room-there : (room : ℕ) (o : Option Request) (asked : Request) → calling.plain room o ≡ Some asked → content_max asked ≤ room
room-there room None asked is = absurd (cc)
room-there room (Some OpenMaster) asked is = absurd (cc)
room-there room (Some OpenSlave) asked is = absurd (cc)
room-there room (Some other) asked is = fitting-room room other asked is

-- so an answer that was told where its bytes fit is told
told-few : (a : Share) (asked : Request) (t : Told) (answer : Answer ℕ) (bytes : List ℕ) (b : Share)
    (calls : Calls a asked [] bytes (Ok answer) b)
    → content_max asked ≤ length t.before
    → (length bytes ≤ length t.before → (answer_in t.reply t.out ≡ Some (reply_in answer bytes)) × (t.reply.bytes ≡ length bytes))
    → KeepsFew asked calls.found.state → TellsAnswer answer bytes t
told-few a asked t answer bytes b calls room told few =
    let small = content-few calls.found calls.left a.caller asked answer bytes few calls.does.adds calls.does.filled in
    let said = told (omega (arith, small, room)) in
    record { told = said.0; count = said.1 }

same-end : (e f : Numbered) → f.pair ≡ e.pair → f.minor ≡ e.minor → f ≡ numbered e.pair e.minor f.end
same-end e f pair minor = ap (λ (n : ℕ). numbered n f.minor f.end) pair ∙ ap (λ (m : Option ℕ). numbered e.pair m f.end) minor

-- a call that is answered, at the member whose end made it
pub called-by : (ask : Ask) (brings : List ℕ) (t : Told) (host : List Plan) (opener : Option (List Holding)) (hold : InHand) (a : Seated)
    (system : ℕ) (e f : Numbered) (asked : Request) (answer : Answer ℕ) (content : List ℕ)
    → seated host opener hold ≡ a → hold ≡ End system e → asked_by ask brings (length t.before) ≡ Some asked
    → f.pair ≡ e.pair → f.minor ≡ e.minor → Calls e.end asked [] content (Ok answer) f.end
    → (length content ≤ length t.before → (answer_in t.reply t.out ≡ Some (reply_in answer content)) × (t.reply.bytes ≡ length content))
    → t.reply.bytes ≤ length t.before → drop t.reply.bytes t.out ≡ drop t.reply.bytes t.before
    → CallsEnd ask brings t a (Ok tt) (seated host opener (End system f))
called-by ask brings t host opener hold a system e f asked answer content view is asks pair minor calls told fits others =
    let room : content_max asked ≤ length t.before = room-there (length t.before) (event_at ask (brought ask brings)) asked asks in
    let same : f ≡ numbered e.pair e.minor f.end = same-end e f pair minor in
    let b : Seated = seated host opener (End system f) in
    let done : IsAnswered (seated host opener (End system e)) system e asked t b = record {
      answer = answer;
      bytes = content;
      share = f.end;
      calls = calls;
      left = ap (λ (n : Numbered). seated host opener (End system n)) same;
      told = told-few e.end asked t answer content f.end calls room told;
      fits = fits;
      others = others;
    } in
    subst (λ (x : Seated). CallsEnd ask brings t x (Ok tt) b) view
    (subst (λ (h : InHand). CallsEnd ask brings t (seated host opener h) (Ok tt) b) (sym is)
    (subst (λ (o : Option Request). CallsOf o (seated host opener (End system e)) system e t (Ok tt) b) (sym asks) done))
