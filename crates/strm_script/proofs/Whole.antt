-- A run of a script, from its points to its whole text.
use Rattle.std.proofs.Common.{◌≡◌, ℕ, suc, ◌+◌, ◌-◌, ◌^◌, ◌≤◌, Bool, true, List, [], ◌∷◌, ◌++◌, length, Option, None, Some, Result, Ok, Err, refl, sym, ap, ◌∙◌, append_assoc, append-nil, inl, inr, subst, take, arith, length-append}
use Rattle.std.proofs.lemmas.Bool.Decides.{eqb_tells}
use Rattle.std.specs.Io.KnownBytes.{Appends, Keeps, Consumes, IsAtEnd}
use Rattle.strm_script.specs.Script.{lines_of, begun_with}
use Rattle.strm_script.specs.ScriptReading.{Reading, Silent, Malformed as MalformedLine, Spoken, reading}
use Rattle.strm_script.specs.ScriptAnswers.{printed_line, Wrong}
use Rattle.strm_script.specs.ScriptRun.{Supply, Session, new_session, session_behind, Told, told_from, told, answered}
use Rattle.strm_script.specs.Points.{Point, beginning, last_line, lines_behind, told_at, Shows, Says}
use Rattle.strm_script.specs.Sessions.{SessionValue, fresh_session, Took, Steps, Finishes, EndsInput}
use Rattle.strm_script.specs.Steps.{point_of, value_of}
use Rattle.strm_script.specs.Output.{Writes}
use Rattle.strm_script.specs.Serving.{Serves, Ended, status_of}
use Rattle.strm_script.specs.Runs.{Agrees, IsFor, IsScript, IsRun, AnswersLines}
use Rattle.strm_script.proofs.PlainTexts.{told-same, told-front}
use Rattle.strm_script.specs.declared.engine.Engine.{Engine}
use Rattle.strm_script.specs.declared.engine.Stop.{Stop}
use Rattle.strm_script.specs.declared.engine.Stop.TheVariants.{Malformed, NoMemory, TooLong}
use Rattle.strm_script.specs.declared.script.Cause.{Cause}
use Rattle.strm_script.specs.declared.script.Cause.TheVariants as causes
use Rattle.strm_script.specs.declared.script.ScriptStatus.{ScriptStatus}
use Rattle.strm_script.specs.declared.script.ScriptStatus.TheVariants as ends
use Rattle.strm_script.proofs.Ways.{Goes-none, Goes-join, Ends-join, Breaks-join, Says-behind, Says-ended, Shows-broken, Shows-going, Shows-behind, Shows-less}
use Rattle.strm_script.proofs.Known.{Appends-none, Appends-join, Consumes-none, Consumes-join, Consumes-kept}

-- a line so far, in front of the lines of the bytes behind it
put_front : List ℕ → List (List ℕ) → List (List ℕ)
put_front line [] = last_line line
put_front line (first ∷ lines) = (line ++ first) ∷ lines

put_front-none : (lines : List (List ℕ)) → put_front [] lines ≡ lines
unfolding put_front
put_front-none [] = refl
put_front-none (line ∷ lines) = refl

last_line-some : (line : List ℕ) (b : ℕ) → last_line (line ++ b ∷ []) ≡ (line ++ b ∷ []) ∷ []
last_line-some [] b = refl
last_line-some (c ∷ line) b = refl

put_front-begun : (line : List ℕ) (b : ℕ) (lines : List (List ℕ)) → put_front (line ++ b ∷ []) lines ≡ put_front line (begun_with b lines)
unfolding put_front
put_front-begun line b [] = last_line-some line b
put_front-begun line b (first ∷ lines) = ap (λ k. k ∷ lines) (append_assoc line (b ∷ []) first)

lines_behind-is : (line bytes : List ℕ) → lines_behind line bytes ≡ put_front line (lines_of bytes)
unfolding lines_behind put_front lines_of
lines_behind-is line [] = refl
lines_behind-is line (b ∷ bytes) =
    elim (eqb_tells b 10) [
      | inl e ↦ rw (e.0)
          ((λ i. sym (append-nil line) i ∷ (lines_behind-is [] bytes ∙ put_front-none (lines_of bytes)) i))
      | inr e ↦ rw (e.0) (lines_behind-is (line ++ b ∷ []) bytes ∙ put_front-begun line b (lines_of bytes))
    ]

-- from the beginning the script comes to what the whole of it does
told_begins : (account : List Supply) (bytes : List ℕ) → told_at account beginning bytes ≡ told account bytes
unfolding told_at
told_begins account bytes = ap (told_from 1 account new_session) (lines_behind-is [] bytes ∙ put_front-none (lines_of bytes))

-- the text of a script with a malformed line ends with that line's number
pub record EndsWith (text : List ℕ) (n : ℕ) : Type 0 where
  pub front : List ℕ
  pub text_is : text ≡ front ++ printed_line (Wrong n)

fault-line : (n k : ℕ) (account : List Supply) (session : Session) (line : List ℕ) (lines : List (List ℕ)) (r : Reading) → reading line ≡ r
    → ((later : List Supply) (p : Session) → (told_from (suc n) later p lines).fault ≡ Some k → EndsWith (told_from (suc n) later p lines).text k)
    → (told_from n account session (line ∷ lines)).fault ≡ Some k → EndsWith (told_from n account session (line ∷ lines)).text k
unfolding told_from
fault-line n k account session line lines Silent e later h = rw (e, told_from) (later account session (rw (e, told_from) at h))
fault-line n k account session line lines MalformedLine e later h =
    let same : n ≡ k = cc (rw (e, told_from) at h) in
    rw (e, told_from) (record { front = []; text_is = ap (λ m. printed_line (Wrong m)) same })
fault-line n k account session line lines (Spoken command) e later h =
    let here = answered session.callers command account session.pair in
    let rest = later here.account (session_behind command session here.pair) (rw (e, told_from) at h) in
    rw (e, told_from) (record {
      front = printed_line here.line ++ rest.front;
      text_is = ap (λ t. printed_line here.line ++ t) rest.text_is ∙ sym (append_assoc (printed_line here.line) rest.front (printed_line (Wrong k)));
    })

fault-last : (n k : ℕ) (account : List Supply) (session : Session) (lines : List (List ℕ))
    → (told_from n account session lines).fault ≡ Some k → EndsWith (told_from n account session lines).text k
unfolding told_from
fault-last n k account session [] h = absurd cc
fault-last n k account session (line ∷ lines) h =
    fault-line n k account session line lines (reading line) refl (λ later p. fault-last (suc n) k later p lines) h

-- a script agrees with its plain text up to its first short line
agrees : (account : List Supply) (short : Option ℕ) (bytes : List ℕ) → (told account bytes).short ≡ short → Agrees account short bytes
agrees account None bytes h = ap (λ (t : Told). t.text) (told-same 1 (lines_of bytes) account new_session h)
agrees account (Some n) bytes h = let x = told-front n 1 (lines_of bytes) account new_session h in (x.rest, x.text_is)

-- the three ways in which a script ends
script_cut : (cause : Cause) (bytes written : List ℕ) (short : Option ℕ) → IsFor cause bytes → Shows beginning bytes written short
    → IsScript (ends.Broken cause) short bytes written
script_cut cause bytes written short f x = record {
  account = x.events;
  wrote = (record { rest = x.unsaid; text = ap (λ (t : Told). t.text) (sym (told_begins x.events bytes)) ∙ x.text_is }, f);
  first_short = sym x.short_is ∙ ap (λ (t : Told). t.short) (told_begins x.events bytes);
  plain = agrees x.events short bytes (ap (λ (t : Told). t.short) (sym (told_begins x.events bytes)) ∙ x.short_is);
}

script_whole : (bytes written : List ℕ) (short : Option ℕ) → Says beginning bytes written short None → IsScript ends.Whole short bytes written
script_whole bytes written short x =
    let all = sym (told_begins x.events bytes) ∙ x.told_is in
    record {
      account = x.events;
      wrote = record { text = ap (λ (t : Told). t.text) (sym all); no_fault = ap (λ (t : Told). t.fault) all };
      first_short = ap (λ (t : Told). t.short) (sym all);
      plain = agrees x.events short bytes (ap (λ (t : Told). t.short) all);
    }

script_faulty : (bytes written : List ℕ) (short : Option ℕ) (n : ℕ) → Says beginning bytes written short (Some n) → IsScript ends.Malformed short bytes written
script_faulty bytes written short n x =
    let all = sym (told_begins x.events bytes) ∙ x.told_is in
    let last = fault-last 1 n x.events new_session (lines_of bytes) (ap (λ (t : Told). t.fault) all) in
    record {
      account = x.events;
      wrote = record {
        line = n;
        front = last.front;
        text = ap (λ (t : Told). t.text) (sym all);
        fault = ap (λ (t : Told). t.fault) all;
        last = ap (λ (t : Told). t.text) (sym all) ∙ last.text_is;
      };
      first_short = ap (λ (t : Told). t.short) (sym all);
      plain = agrees x.events short bytes (ap (λ (t : Told). t.short) all);
    }

-- a run on a reader that tells its bytes, by what it has left
abbrev Outcome : Option (List ℕ) → Option (List ℕ) → ScriptStatus → Option ℕ → List ℕ → Type 0
Outcome w0 w1 status short bytes = (written : List ℕ) × Appends w0 w1 written × IsScript status short bytes written

run_by : (r0 r1 w0 w1 : Option (List ℕ)) (status : ScriptStatus) (short : Option ℕ) (input : List ℕ) → Consumes r0 r1 input
    → ((rest : List ℕ) → r1 ≡ Some rest → Outcome w0 w1 status short (input ++ rest)) → IsRun r0 w0 w1 status short
run_by None r1 w0 w1 status short input h f = tt
run_by (Some bytes) None w0 w1 status short input h f = absurd h
run_by (Some bytes) (Some rest) w0 w1 status short input h f = subst (Outcome w0 w1 status short) (sym h) (f rest refl)

pub serves_first : {B : Type 0} (r w : Option (List ℕ)) (e : Engine B) → value_of e ≡ fresh_session → Serves r r w w e
serves_first r w e x =
    let point : point_of e ≡ beginning = ap (λ (v : SessionValue). v.point) x in
    let none : e.answers.items ≡ [] = ap (λ (v : SessionValue). v.answers) x in
    record {
      input = [];
      written = [];
      reads = Consumes-none r;
      writes = Appends-none w;
      goes = rw (point, none) (Goes-none beginning);
    }

-- the answers are written
unfoldable pub serves_sent : {B : Type 0} (r0 r1 w0 w1 w2 : Option (List ℕ)) (e sent : Engine B) → Serves r0 r1 w0 w1 e → Writes w1 w2 e.answers.items true
    → point_of sent ≡ point_of e → sent.answers.items ≡ [] → Serves r0 r1 w0 w2 sent
serves_sent r0 r1 w0 w1 w2 e sent x y point none = record {
  input = x.input;
  written = x.written ++ y.front;
  reads = x.reads;
  writes = Appends-join w0 w1 w2 x.written y.front x.writes y.appends;
  goes =
      let text : x.written ++ e.answers.items ≡ (x.written ++ y.front) ++ sent.answers.items =
      ap (λ k. x.written ++ k) (y.bytes_are ∙ ap (λ k. y.front ++ k) (y.all refl ∙ sym none))
      ∙ sym (append_assoc x.written y.front sent.answers.items) in
      rw (sym text, point) x.goes;
}

-- they aren't, or not all of them
pub serves_cut : {B : Type 0} (r0 r1 w0 w1 w2 : Option (List ℕ)) (e : Engine B) (well : Bool) (short : Option ℕ) → Serves r0 r1 w0 w1 e
    → Writes w1 w2 e.answers.items well → short ≡ e.short → IsRun r0 w0 w2 (ends.Broken causes.Output) short
serves_cut r0 r1 w0 w1 w2 e well short x y same =
    run_by r0 r1 w0 w2 (ends.Broken causes.Output) short x.input x.reads (λ rest left.
    let text : x.written ++ e.answers.items ≡ (x.written ++ y.front) ++ y.rest =
    ap (λ k. x.written ++ k) y.bytes_are ∙ sym (append_assoc x.written y.front y.rest) in (
      x.written ++ y.front,
      Appends-join w0 w1 w2 x.written y.front x.writes y.appends,
      rw (same) (script_cut causes.Output (x.input ++ rest) (x.written ++ y.front) e.short tt
          (Shows-going beginning (point_of e) x.input rest (x.written ++ y.front) y.rest (rw (sym text) x.goes))),
    ))

-- it is broken off where all is written that was answered, or where it isn't
pub serves_broken : {B : Type 0} (r0 r1 w0 w1 : Option (List ℕ)) (e : Engine B) (cause : Cause) (x : Serves r0 r1 w0 w1 e)
    → ((rest : List ℕ) → IsFor cause (x.input ++ rest)) → IsRun r0 w0 w1 (ends.Broken cause) e.short
serves_broken r0 r1 w0 w1 e cause x f =
    run_by r0 r1 w0 w1 (ends.Broken cause) e.short x.input x.reads (λ rest left. (
      x.written,
      x.writes,
      script_cut cause (x.input ++ rest) x.written e.short (f rest)
          (Shows-going beginning (point_of e) x.input rest x.written e.answers.items x.goes),
    ))

-- the reader failed
pub serves_failed : {B : Type 0} (r0 r1 w0 w1 : Option (List ℕ)) (e : Engine B) → Serves r0 r1 w0 w1 e → IsRun r0 w0 w1 (ends.Broken causes.Input) e.short
serves_failed r0 r1 w0 w1 e x = serves_broken r0 r1 w0 w1 e causes.Input x (λ rest. tt)

-- and all is written that the lines say which were read
pub serves_answered : {B : Type 0} (r0 r1 r2 w0 w1 : Option (List ℕ)) (e : Engine B) → Serves r0 r1 w0 w1 e → e.answers.items ≡ [] → Keeps r1 r2
    → AnswersLines r0 r2 w0 w1
serves_answered r0 r1 r2 w0 w1 e x none k = record {
  input = x.input;
  written = x.written;
  point = point_of e;
  reads = Consumes-kept r0 r1 r2 x.input x.reads k;
  writes = x.writes;
  goes = let text : x.written ++ e.answers.items ≡ x.written = ap (λ k. x.written ++ k) none ∙ append-nil x.written in rw (sym text) x.goes;
}

-- so many reads were made
pub serves_long : {B : Type 0} (r0 r1 w0 w1 : Option (List ℕ)) (e : Engine B) (x : Serves r0 r1 w0 w1 e) → 2 ^ 32 - 1 ≤ length x.input
    → IsRun r0 w0 w1 (ends.Broken causes.Length) e.short
serves_long r0 r1 w0 w1 e x h = serves_broken r0 r1 w0 w1 e causes.Length x (λ rest. omega (arith, h, length-append x.input rest))

-- more was read, and taken
unfoldable pub serves_took : {B : Type 0} (r0 r1 r2 w0 w1 : Option (List ℕ)) (e took : Engine B) (bytes : List ℕ) → Serves r0 r1 w0 w1 e → Consumes r1 r2 bytes → Took (value_of e) (value_of took) bytes
    → Serves r0 r2 w0 w1 took
serves_took r0 r1 r2 w0 w1 e took bytes x read y = record {
  input = x.input ++ bytes;
  written = x.written;
  reads = Consumes-join r0 r1 r2 x.input bytes x.reads read;
  writes = x.writes;
  goes =
      let text : (x.written ++ e.answers.items) ++ y.text ≡ x.written ++ took.answers.items =
      append_assoc x.written e.answers.items y.text ∙ ap (λ k. x.written ++ k) (sym y.answers) in
      rw (sym text) (Goes-join beginning (point_of e) (point_of took) x.input bytes (x.written ++ e.answers.items) y.text x.goes y.goes);
}

-- nothing was read, for once
pub serves_again : {B : Type 0} (r0 r1 r2 w0 w1 : Option (List ℕ)) (e : Engine B) → Serves r0 r1 w0 w1 e → Keeps r1 r2 → Serves r0 r2 w0 w1 e
serves_again r0 r1 r2 w0 w1 e x k = record {
  input = x.input;
  written = x.written;
  reads = Consumes-kept r0 r1 r2 x.input x.reads k;
  writes = x.writes;
  goes = x.goes;
}

Shows-said : (a : Point) (bytes s t : List ℕ) (short fault : Option ℕ) → Says a bytes (s ++ t) short fault → Shows a bytes s short
Shows-said a bytes s t short fault x = record {
  events = x.events;
  unsaid = t;
  text_is = ap (λ (k : Told). k.text) x.told_is;
  short_is = ap (λ (k : Told). k.short) x.told_is;
}

-- what is written of a script that comes to its end, by what the writer takes of the last answers
outcome_cut : (cause : Cause) (w0 w1 w2 : Option (List ℕ)) (short : Option ℕ) (bytes written answers front rest : List ℕ) → IsFor cause bytes
    → Shows beginning bytes (written ++ answers) short → Appends w0 w1 written → Appends w1 w2 front → answers ≡ front ++ rest
    → Outcome w0 w2 (ends.Broken cause) short bytes
outcome_cut cause w0 w1 w2 short bytes written answers front rest f x before now e =
    let text : written ++ answers ≡ (written ++ front) ++ rest = ap (λ k. written ++ k) e ∙ sym (append_assoc written front rest) in (
      written ++ front,
      Appends-join w0 w1 w2 written front before now,
      script_cut cause bytes (written ++ front) short f (Shows-less beginning bytes (written ++ front) rest short (rw (sym text) x)),
    )

whole_text : (written answers front rest : List ℕ) → answers ≡ front ++ rest → rest ≡ [] → written ++ answers ≡ written ++ front
whole_text written answers front rest e none = ap (λ k. written ++ k) (e ∙ ap (λ k. front ++ k) none ∙ append-nil front)

outcome_unsent : (w0 w1 w2 : Option (List ℕ)) (short fault : Option ℕ) (bytes written answers front rest : List ℕ)
    → Says beginning bytes (written ++ answers) short fault → Appends w0 w1 written → Appends w1 w2 front → answers ≡ front ++ rest
    → Outcome w0 w2 (ends.Broken causes.Output) short bytes
outcome_unsent w0 w1 w2 short fault bytes written answers front rest x before now e =
    outcome_cut causes.Output w0 w1 w2 short bytes written answers front rest tt
    (Shows-said beginning bytes (written ++ answers) [] short fault (rw (append-nil (written ++ answers)) x)) before now e

outcome_whole : (w0 w1 w2 : Option (List ℕ)) (status : ScriptStatus) (short : Option ℕ) (bytes written answers : List ℕ)
    → Says beginning bytes (written ++ answers) short None → Appends w0 w1 written → Ended w1 w2 answers status ends.Whole → Outcome w0 w2 status short bytes
outcome_whole w0 w1 w2 status short bytes written answers x before y = elim y.status_is [
  | inl e ↦ rw (e) (outcome_unsent w0 w1 w2 short None bytes written answers y.front y.rest x before y.appends y.answers_are)
  | inr e ↦ rw (e.0) (
    written ++ y.front,
    Appends-join w0 w1 w2 written y.front before y.appends,
    script_whole bytes (written ++ y.front) short (rw (sym (whole_text written answers y.front y.rest y.answers_are e.1)) x),
  )
]

outcome_faulty : (w0 w1 w2 : Option (List ℕ)) (status : ScriptStatus) (short : Option ℕ) (n : ℕ) (bytes written answers : List ℕ)
    → Says beginning bytes (written ++ answers) short (Some n) → Appends w0 w1 written → Ended w1 w2 answers status ends.Malformed → Outcome w0 w2 status short bytes
outcome_faulty w0 w1 w2 status short n bytes written answers x before y = elim y.status_is [
  | inl e ↦ rw (e) (outcome_unsent w0 w1 w2 short (Some n) bytes written answers y.front y.rest x before y.appends y.answers_are)
  | inr e ↦ rw (e.0) (
    written ++ y.front,
    Appends-join w0 w1 w2 written y.front before y.appends,
    script_faulty bytes (written ++ y.front) short n (rw (sym (whole_text written answers y.front y.rest y.answers_are e.1)) x),
  )
]

outcome_broken : (w0 w1 w2 : Option (List ℕ)) (status : ScriptStatus) (short : Option ℕ) (bytes written answers : List ℕ)
    → Shows beginning bytes (written ++ answers) short → Appends w0 w1 written → Ended w1 w2 answers status (ends.Broken causes.Memory) → Outcome w0 w2 status short bytes
outcome_broken w0 w1 w2 status short bytes written answers x before y = elim y.status_is [
  | inl e ↦ rw (e) (outcome_cut causes.Output w0 w1 w2 short bytes written answers y.front y.rest tt x before y.appends y.answers_are)
  | inr e ↦ rw (e.0) (outcome_cut causes.Memory w0 w1 w2 short bytes written answers y.front y.rest tt x before y.appends y.answers_are)
]

-- the answers of the last line, behind what was written
said_text : (written old new text : List ℕ) → new ≡ old ++ text → (written ++ old) ++ text ≡ written ++ new
said_text written old new text e = append_assoc written old text ∙ ap (λ k. written ++ k) (sym e)

-- a script that stops among bytes
pub serves_stopped : {B : Type 0} (r0 r1 r2 w0 w1 w2 : Option (List ℕ)) (e done : Engine B) (bytes : List ℕ) (stop : Stop) (status : ScriptStatus) (short : Option ℕ)
    → Serves r0 r1 w0 w1 e → Consumes r1 r2 bytes → Steps (value_of e) (value_of done) bytes (Err stop) → Ended w1 w2 done.answers.items status (status_of (Err stop))
    → short ≡ done.short → IsRun r0 w0 w2 status short
serves_stopped r0 r1 r2 w0 w1 w2 e done bytes Malformed status short x read y end same =
    run_by r0 r2 w0 w2 status short (x.input ++ bytes) (Consumes-join r0 r1 r2 x.input bytes x.reads read) (λ rest left.
    let says = Says-ended beginning (x.input ++ bytes) rest ((x.written ++ e.answers.items) ++ y.text) done.short y.number
    (Ends-join beginning (point_of e) x.input bytes (x.written ++ e.answers.items) y.text done.short y.number x.goes y.ends) in
    rw (same) (outcome_faulty w0 w1 w2 status done.short y.number ((x.input ++ bytes) ++ rest) x.written done.answers.items
    (rw (sym (said_text x.written e.answers.items done.answers.items y.text y.answers)) says) x.writes end))
serves_stopped r0 r1 r2 w0 w1 w2 e done bytes TooLong status short x read y end same = absurd y
serves_stopped r0 r1 r2 w0 w1 w2 e done bytes NoMemory status short x read y end same =
    run_by r0 r2 w0 w2 status short (x.input ++ bytes) (Consumes-join r0 r1 r2 x.input bytes x.reads read) (λ rest left.
    let shows = Shows-broken beginning (x.input ++ bytes) rest ((x.written ++ e.answers.items) ++ y.text) done.short
    (Breaks-join beginning (point_of e) x.input bytes (x.written ++ e.answers.items) y.text done.short x.goes y.breaks) in
    rw (same) (outcome_broken w0 w1 w2 status done.short ((x.input ++ bytes) ++ rest) x.written done.answers.items
    (rw (sym (said_text x.written e.answers.items done.answers.items y.text y.answers)) shows) x.writes end))

-- a reader that has nothing left has no known byte left
at_end : (r : Option (List ℕ)) (rest : List ℕ) → r ≡ Some rest → IsAtEnd r → rest ≡ []
at_end None rest e h = absurd cc
at_end (Some bytes) rest e h = let same : bytes ≡ rest = cc in sym same ∙ h

finish_says : {B : Type 0} (r0 r1 w0 w1 : Option (List ℕ)) (e done : Engine B) (fault : Option ℕ) (x : Serves r0 r1 w0 w1 e) → Finishes (value_of e) (value_of done) fault
    → Says beginning (x.input ++ []) (x.written ++ done.answers.items) done.short fault
finish_says r0 r1 w0 w1 e done fault x y =
    rw (sym (said_text x.written e.answers.items done.answers.items y.text y.answers))
    (Says-behind beginning (point_of e) x.input [] (x.written ++ e.answers.items) y.text done.short fault x.goes y.says)

-- a script whose input has ended
pub serves_ended : {B : Type 0} (r0 r1 w0 w1 w2 : Option (List ℕ)) (e done : Engine B) (r : Result (Unit {0}) Stop) (status : ScriptStatus) (short : Option ℕ)
    → Serves r0 r1 w0 w1 e → IsAtEnd r1 → EndsInput (value_of e) (value_of done) r → Ended w1 w2 done.answers.items status (status_of r) → short ≡ done.short
    → IsRun r0 w0 w2 status short
serves_ended r0 r1 w0 w1 w2 e done (Ok _) status short x none y end same =
    run_by r0 r1 w0 w2 status short x.input x.reads (λ rest left.
    rw (same, at_end r1 rest left none)
    (outcome_whole w0 w1 w2 status done.short (x.input ++ []) x.written done.answers.items (finish_says r0 r1 w0 w1 e done None x y) x.writes end))
serves_ended r0 r1 w0 w1 w2 e done (Err Malformed) status short x none y end same =
    run_by r0 r1 w0 w2 status short x.input x.reads (λ rest left.
    rw (same, at_end r1 rest left none)
    (outcome_faulty w0 w1 w2 status done.short y.0 (x.input ++ []) x.written done.answers.items (finish_says r0 r1 w0 w1 e done (Some y.0) x y.1) x.writes end))
serves_ended r0 r1 w0 w1 w2 e done (Err NoMemory) status short x none y end same =
    run_by r0 r1 w0 w2 status short x.input x.reads (λ rest left.
    rw (same, at_end r1 rest left none)
    (outcome_broken w0 w1 w2 status done.short (x.input ++ []) x.written done.answers.items
    (rw (sym (said_text x.written e.answers.items done.answers.items y.text y.answers))
    (Shows-behind beginning (point_of e) x.input [] (x.written ++ e.answers.items) y.text done.short x.goes y.shows))
    x.writes end))
serves_ended r0 r1 w0 w1 w2 e done (Err TooLong) status short x none y end same = absurd y

-- how a script ended not all of whose last answers were sent
pub ended_cut : (w0 w1 : Option (List ℕ)) (answers : List ℕ) (well : Bool) (good : ScriptStatus) → Writes w0 w1 answers well
    → Ended w0 w1 answers (ends.Broken causes.Output) good
ended_cut w0 w1 answers well good x = record { front = x.front; rest = x.rest; appends = x.appends; answers_are = x.bytes_are; status_is = inl refl }

-- a read that gave nothing
pub read_none : (r1 r2 : Option (List ℕ)) (n : ℕ) (bytes : List ℕ) → n ≡ 0 → Consumes r1 r2 (take n bytes) → Keeps r1 r2
read_none None r2 n bytes e h = tt
read_none (Some xs) None n bytes e h = absurd h
read_none (Some xs) (Some ys) n bytes e h = sym (h ∙ ap (λ k. take k bytes ++ ys) e)

-- a run on its way, of at least so many bytes
pub record Serving {B : Type 0} (r0 r1 w0 w1 : Option (List ℕ)) (e : Engine B) (reads : ℕ) : Type 0 where
  pub serves : Serves r0 r1 w0 w1 e
  pub bytes : reads ≤ length serves.input

pub serving_first : {B : Type 0} (r w : Option (List ℕ)) (e : Engine B) → value_of e ≡ fresh_session → Serving r r w w e 0
serving_first r w e x = record { serves = serves_first r w e x; bytes = omega arith }

pub serving_more : {B : Type 0} (r0 r1 r2 w0 w1 w2 : Option (List ℕ)) (e sent took : Engine B) (reads : ℕ) (bytes : List ℕ) → Serving r0 r1 w0 w1 e reads
    → Writes w1 w2 e.answers.items true → point_of sent ≡ point_of e → sent.answers.items ≡ [] → Consumes r1 r2 bytes → 1 ≤ length bytes
    → Took (value_of sent) (value_of took) bytes → Serving r0 r2 w0 w2 took (reads + 1)
unfolding serves_sent serves_took
serving_more r0 r1 r2 w0 w1 w2 e sent took reads bytes x y point none read some took_is = record {
  serves = serves_took r0 r1 r2 w0 w2 sent took bytes (serves_sent r0 r1 w0 w1 w2 e sent x.serves y point none) read took_is;
  bytes = omega (arith, x.bytes, some, length-append x.serves.input bytes);
}
