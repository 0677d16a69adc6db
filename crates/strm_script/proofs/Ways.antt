-- How bytes lead a script on, from line to line.
use Rattle.strm_script.proofs.Prelude.{◌≡◌, ℕ, suc, ◌<◌, ◌≤◌, List, [], ◌∷◌, ◌++◌, length, Option, None, Some, refl, arith, sym, ap, ◌∙◌}
use Rattle.strm_script.proofs.Prelude.{append_assoc, append-nil, length-append, inl, inr, ne_eqb, lt-ltb, eqb_tells}
use Rattle.strm_script.specs.Script.{Command}
use Rattle.strm_script.specs.ScriptReading.{Silent, Malformed, Spoken, reading}
use Rattle.strm_script.specs.ScriptAnswers.{printed_line, Wrong}
use Rattle.strm_script.specs.ScriptRun as script
use Rattle.strm_script.specs.ScriptRun.{Supply, PlainPair, Session, session_behind, Told, told_after, told_from, first_of, line_if, answered}
use Rattle.strm_script.specs.Lines.{line_of}
use Rattle.strm_script.specs.Outcomes.{LeadsTo, answered_as}
use Rattle.strm_script.specs.declared.outcomes.Answered.{Answered}
use Rattle.strm_script.specs.Points.{Point, lines_behind, told_at, behind, Goes, Ends, Breaks, Shows, Says}
use Rattle.strm_script.proofs.Supplies.{told-enough}

lines_ended : (line bytes : List ℕ) → lines_behind line (10 ∷ bytes) ≡ line ∷ lines_behind [] bytes
unfolding lines_behind
lines_ended line bytes = refl

lines_within : (line : List ℕ) (b : ℕ) (bytes : List ℕ) → (b ≡ 10 → ⊥) → lines_behind line (b ∷ bytes) ≡ lines_behind (line ++ b ∷ []) bytes
unfolding lines_behind
lines_within line b bytes ne = rw (ne_eqb b 10 ne) refl

told_silent : (n : ℕ) (account : List Supply) (session : Session) (line : List ℕ) (lines : List (List ℕ))
    → reading line ≡ Silent → told_from n account session (line ∷ lines) ≡ told_from (suc n) account session lines
unfolding told_from
told_silent n account session line lines h = rw (h, told_from) refl

told_malformed : (n : ℕ) (account : List Supply) (session : Session) (line : List ℕ) (lines : List (List ℕ))
    → reading line ≡ Malformed → told_from n account session (line ∷ lines) ≡ record { text = printed_line (Wrong n); short = None; fault = Some n }
unfolding told_from
told_malformed n account session line lines h = rw (h, told_from) refl

told_spoken : (n : ℕ) (account : List Supply) (session : Session) (line : List ℕ) (lines : List (List ℕ)) (command : Command) (here : script.Answered)
    → reading line ≡ Spoken command → answered session.callers command account session.pair ≡ here
    → told_from n account session (line ∷ lines) ≡ told_after (printed_line here.line) (line_if here.is_short n) (told_from (suc n) here.account (session_behind command session here.pair) lines)
unfolding told_from
told_spoken n account session line lines command here h e =
    rw (h, told_from) (ap (λ (x : script.Answered). told_after (printed_line x.line) (line_if x.is_short n) (told_from (suc n) x.account (session_behind command session x.pair) lines)) e)

first_of-assoc : (a b c : Option ℕ) → first_of a (first_of b c) ≡ first_of (first_of a b) c
first_of-assoc None b c = refl
first_of-assoc (Some n) b c = refl

first_of-none : (a : Option ℕ) → first_of a None ≡ a
first_of-none None = refl
first_of-none (Some n) = refl

pub Goes-none : (p : Point) → Goes p [] [] p
Goes-none p = record { events = []; goes = λ account bytes. refl }

pub Goes-join : (a b c : Point) (i j s t : List ℕ) → Goes a i s b → Goes b j t c → Goes a (i ++ j) (s ++ t) c
Goes-join a b c i j s t x y = record {
  events = x.events ++ y.events;
  goes = λ account bytes.
      (λ k. told_at (append_assoc x.events y.events account k) a (append_assoc i j bytes k))
      ∙ x.goes (y.events ++ account) (j ++ bytes)
      ∙ ap (behind s) (y.goes account bytes)
      ∙ (let later = told_at account c bytes in
      λ k. record { text = sym (append_assoc s t later.text) k; short = later.short; fault = later.fault });
}

pub Ends-join : (a b : Point) (i j s t : List ℕ) (short : Option ℕ) (n : ℕ) → Goes a i s b → Ends b j t short n → Ends a (i ++ j) (s ++ t) short n
Ends-join a b i j s t short n x y = record {
  events = x.events ++ y.events;
  ends = λ bytes.
      ap (told_at (x.events ++ y.events) a) (append_assoc i j bytes)
      ∙ x.goes y.events (j ++ bytes)
      ∙ ap (behind s) (y.ends bytes);
}

pub Ends-more : (a : Point) (i j t : List ℕ) (short : Option ℕ) (n : ℕ) → Ends a i t short n → Ends a (i ++ j) t short n
Ends-more a i j t short n x = record {
  events = x.events;
  ends = λ bytes. ap (told_at x.events a) (append_assoc i j bytes) ∙ x.ends (j ++ bytes);
}

-- nothing was taken yet
pub Breaks-none : (a : Point) (i : List ℕ) (short : Option ℕ) → a.short ≡ short → Breaks a i [] short
Breaks-none a i short same = record { point = a; taken = []; left = i; unsaid = []; input_is = refl; goes = Goes-none a; same = same }

-- all was taken, and its text isn't said
pub Breaks-unsaid : (a b : Point) (i t : List ℕ) (short : Option ℕ) → Goes a i t b → b.short ≡ short → Breaks a i [] short
Breaks-unsaid a b i t short x same =
    record { point = b; taken = i; left = []; unsaid = t; input_is = sym (append-nil i); goes = x; same = same }

pub Breaks-join : (a b : Point) (i j s t : List ℕ) (short : Option ℕ) → Goes a i s b → Breaks b j t short → Breaks a (i ++ j) (s ++ t) short
Breaks-join a b i j s t short x y = record {
  point = y.point;
  taken = i ++ y.taken;
  left = y.left;
  unsaid = y.unsaid;
  input_is = ap (λ k. i ++ k) y.input_is ∙ sym (append_assoc i y.taken y.left);
  goes =
      let all = Goes-join a b y.point i y.taken s (t ++ y.unsaid) x y.goes in
      rw (append_assoc s t y.unsaid) all;
  same = y.same;
}

pub Breaks-more : (a : Point) (i j t : List ℕ) (short : Option ℕ) → Breaks a i t short → Breaks a (i ++ j) t short
Breaks-more a i j t short x = record {
  point = x.point;
  taken = x.taken;
  left = x.left ++ j;
  unsaid = x.unsaid;
  input_is = ap (λ k. k ++ j) x.input_is ∙ append_assoc x.taken x.left j;
  goes = x.goes;
  same = x.same;
}

-- a byte within a line
pub goes_byte : (p : Point) (b : ℕ) → (b ≡ 10 → ⊥) → Goes p (b ∷ []) [] (record p { line = p.line ++ b ∷ [] })
unfolding told_at
goes_byte p b ne = record {
  events = [];
  goes = λ account bytes.
      ap (λ lines. told_after [] p.short (told_from (suc p.lines) account p.session lines)) (lines_within p.line b bytes ne);
}

-- the end of a line that asks for nothing
pub goes_silent : (p : Point) → reading p.line ≡ Silent
    → Goes p (10 ∷ []) [] (record { session = p.session; lines = suc p.lines; line = []; short = p.short })
unfolding told_at
goes_silent p h = record {
  events = [];
  goes = λ account bytes.
      ap (told_after [] p.short)
      (ap (told_from (suc p.lines) account p.session) (lines_ended p.line bytes)
      ∙ told_silent (suc p.lines) account p.session p.line (lines_behind [] bytes) h);
}

-- the end of a line with a command
pub goes_spoken : (p : Point) (command : Command) (found : Answered) (given : List ℕ) (after : Option PlainPair)
    → reading p.line ≡ Spoken command → LeadsTo (λ account. answered p.session.callers command account p.session.pair) found given after
    → Goes p (10 ∷ []) (printed_line (line_of given found.line))
    (record { session = session_behind command p.session after; lines = suc p.lines; line = []; short = first_of p.short (line_if found.short (suc p.lines)) })
unfolding told_at
goes_spoken p command found given after h lead = record {
  events = lead.events;
  goes = λ account bytes.
      let rest = told_from (suc (suc p.lines)) account (session_behind command p.session after) (lines_behind [] bytes) in
      ap (told_after [] p.short)
      (ap (told_from (suc p.lines) (lead.events ++ account) p.session) (lines_ended p.line bytes)
      ∙ told_spoken (suc p.lines) (lead.events ++ account) p.session p.line (lines_behind [] bytes) command (answered_as found given after account) h (lead.leads account))
      ∙ (λ k. record {
        text = printed_line (line_of given found.line) ++ rest.text;
        short = first_of-assoc p.short (line_if found.short (suc p.lines)) rest.short k;
        fault = rest.fault;
      });
}

-- the end of a malformed line
pub ends_malformed : (p : Point) → reading p.line ≡ Malformed → Ends p (10 ∷ []) (printed_line (Wrong (suc p.lines))) p.short (suc p.lines)
unfolding told_at
ends_malformed p h = record {
  events = [];
  ends = λ bytes.
      ap (told_after [] p.short)
      (ap (told_from (suc p.lines) [] p.session) (lines_ended p.line bytes)
      ∙ told_malformed (suc p.lines) [] p.session p.line (lines_behind [] bytes) h)
      ∙ ap (λ short. record { text = printed_line (Wrong (suc p.lines)); short = short; fault = Some (suc p.lines) }) (first_of-none p.short);
}

-- a line that goes beyond the limit
lines_long : (line bytes : List ℕ) → 4096 < length line
    → (first : List ℕ) × (later : List (List ℕ)) × (lines_behind line bytes ≡ first ∷ later) × (4096 < length first)
unfolding lines_behind
lines_long [] [] h = absurd (omega arith)
lines_long (b ∷ line) [] h = (b ∷ line, [], refl, h)
lines_long line (b ∷ bytes) h =
    elim (eqb_tells b 10) [
      | inl e ↦ (line, lines_behind [] bytes, rw (e.0) refl, h)
      | inr e ↦
          let more = lines_long (line ++ b ∷ []) bytes (omega (arith, length-append line (b ∷ []))) in
          (more.0, more.1, rw (e.0) more.2, more.3)
    ]

reading_long : (line : List ℕ) → 4096 < length line → reading line ≡ Malformed
unfolding reading
reading_long line h = rw (lt-ltb 4096 (length line) h) refl

pub ends_long : (p : Point) (b : ℕ) → 4096 ≤ length p.line → (b ≡ 10 → ⊥)
    → Ends p (b ∷ []) (printed_line (Wrong (suc p.lines))) p.short (suc p.lines)
unfolding told_at
ends_long p b h ne = record {
  events = [];
  ends = λ bytes.
      let long = lines_long (p.line ++ b ∷ []) bytes (omega (arith, length-append p.line (b ∷ []))) in
      ap (told_after [] p.short)
      (ap (told_from (suc p.lines) [] p.session) (lines_within p.line b bytes ne ∙ long.2)
      ∙ told_malformed (suc p.lines) [] p.session long.0 long.1 (reading_long long.0 long.3))
      ∙ ap (λ short. record { text = printed_line (Wrong (suc p.lines)); short = short; fault = Some (suc p.lines) }) (first_of-none p.short);
}

-- a point from which all events get their blocks
told_at-enough : (p : Point) (bytes : List ℕ) → (told_at [] p bytes).short ≡ p.short
unfolding told_at
told_at-enough p bytes =
    ap (first_of p.short) (told-enough (suc p.lines) p.session (lines_behind p.line bytes)) ∙ first_of-none p.short

-- what is said where a script breaks off, of all that comes
pub Shows-broken : (a : Point) (i more t : List ℕ) (short : Option ℕ) → Breaks a i t short → Shows a (i ++ more) t short
Shows-broken a i more t short x =
    let later = told_at [] x.point (x.left ++ more) in
    let input = ap (λ k. k ++ more) x.input_is ∙ append_assoc x.taken x.left more in
    let all = ap (told_at (x.goes.events ++ []) a) input ∙ x.goes.goes [] (x.left ++ more) in
    record {
      events = x.goes.events ++ [];
      unsaid = x.unsaid ++ later.text;
      text_is = ap (λ (k : Told). k.text) all ∙ append_assoc t x.unsaid later.text;
      short_is = ap (λ (k : Told). k.short) all ∙ told_at-enough x.point (x.left ++ more) ∙ x.same;
    }

pub Shows-going : (a b : Point) (i more s t : List ℕ) → Goes a i (s ++ t) b → Shows a (i ++ more) s b.short
Shows-going a b i more s t x =
    let later = told_at [] b more in
    let all = x.goes [] more in
    record {
      events = x.events ++ [];
      unsaid = t ++ later.text;
      text_is = ap (λ (k : Told). k.text) all ∙ append_assoc s t later.text;
      short_is = ap (λ (k : Told). k.short) all ∙ told_at-enough b more;
    }

pub Shows-behind : (a b : Point) (i j s t : List ℕ) (short : Option ℕ) → Goes a i s b → Shows b j t short → Shows a (i ++ j) (s ++ t) short
Shows-behind a b i j s t short x y =
    let all = x.goes y.events j in
    record {
      events = x.events ++ y.events;
      unsaid = y.unsaid;
      text_is = ap (λ (k : Told). k.text) all ∙ ap (λ k. s ++ k) y.text_is ∙ sym (append_assoc s t y.unsaid);
      short_is = ap (λ (k : Told). k.short) all ∙ y.short_is;
    }

-- less of what is shown is shown too
pub Shows-less : (a : Point) (i s t : List ℕ) (short : Option ℕ) → Shows a i (s ++ t) short → Shows a i s short
Shows-less a i s t short x = record {
  events = x.events;
  unsaid = t ++ x.unsaid;
  text_is = x.text_is ∙ append_assoc s t x.unsaid;
  short_is = x.short_is;
}

pub Says-behind : (a b : Point) (i j s t : List ℕ) (short fault : Option ℕ) → Goes a i s b → Says b j t short fault → Says a (i ++ j) (s ++ t) short fault
Says-behind a b i j s t short fault x y = record {
  events = x.events ++ y.events;
  told_is = x.goes y.events j ∙ ap (behind s) y.told_is;
}

pub Says-ended : (a : Point) (i more t : List ℕ) (short : Option ℕ) (n : ℕ) → Ends a i t short n → Says a (i ++ more) t short (Some n)
Says-ended a i more t short n x = record { events = x.events; told_is = x.ends more }

-- the end of the input: of a line that has no bytes, and of one that has
pub Says-none : (p : Point) → p.line ≡ [] → Says p [] [] p.short None
unfolding told_at lines_behind told_from
Says-none p h = record {
  events = [];
  told_is = rw (h) (ap (λ short. record { text = []; short = short; fault = None }) (first_of-none p.short));
}

last_is : (line : List ℕ) → (line ≡ [] → ⊥) → lines_behind line [] ≡ lines_behind line (10 ∷ [])
unfolding lines_behind
last_is [] h = absurd (h refl)
last_is (b ∷ line) h = refl

pub told_at-last : (account : List Supply) (p : Point) → (p.line ≡ [] → ⊥) → told_at account p [] ≡ told_at account p (10 ∷ [])
unfolding told_at
told_at-last account p h = ap (λ lines. told_after [] p.short (told_from (suc p.lines) account p.session lines)) (last_is p.line h)

pub Says-last : (p : Point) (t : List ℕ) (short fault : Option ℕ) → (p.line ≡ [] → ⊥) → Says p (10 ∷ []) t short fault → Says p [] t short fault
Says-last p t short fault h x = record { events = x.events; told_is = told_at-last x.events p h ∙ x.told_is }

pub Shows-last : (p : Point) (t : List ℕ) (short : Option ℕ) → (p.line ≡ [] → ⊥) → Shows p (10 ∷ []) t short → Shows p [] t short
Shows-last p t short h x = record {
  events = x.events;
  unsaid = x.unsaid;
  text_is = ap (λ (k : Told). k.text) (told_at-last x.events p h) ∙ x.text_is;
  short_is = ap (λ (k : Told). k.short) (told_at-last x.events p h) ∙ x.short_is;
}
