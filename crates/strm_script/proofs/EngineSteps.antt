-- What the engine's parts do, joined.
use Rattle.std.proofs.Common.{◌≡◌, ℕ, suc, ◌≤◌, List, [], ◌∷◌, ◌++◌, length, None, Some, Result, Ok, Err, sym, ap, ◌∙◌, append_assoc, append-nil, inl, inr, OnOk}
use Rattle.strm_script.specs.Script.{Command}
use Rattle.strm_script.specs.ScriptReading.{reading, Malformed as MalformedLine, Spoken}
use Rattle.strm_script.specs.ScriptAnswers.{printed_line, Wrong}
use Rattle.strm_script.specs.Lines.{line_of}
use Rattle.strm_script.specs.Sessions.{SessionValue, Took, Fails, Steps, Takes, Finishes, EndsInput, TakesEnd}
use Rattle.strm_script.specs.Steps.{pair_of, point_of, value_of, Refused, Obeyed, AnswersLine}
use Rattle.strm_script.specs.declared.engine.Engine.{Engine}
use Rattle.strm_script.specs.declared.engine.Stop.{Stop}
use Rattle.strm_script.specs.declared.engine.Stop.TheVariants.{Malformed, NoMemory, TooLong}
use Rattle.strm_script.proofs.Ways.{Goes-none, Goes-join, Ends-join, Ends-more, Breaks-none, Breaks-unsaid, Breaks-join, Breaks-more, goes_byte, goes_spoken, ends_malformed, ends_long, Says-none, Says-behind, Says-ended, Says-last, Shows-broken, Shows-last}

-- nothing was done for want of memory
pub fails_none : (old new : SessionValue) (input : List ℕ) → new.point.short ≡ old.point.short → new.answers ≡ old.answers → Fails old new input
fails_none old new input short answers = record {
  text = [];
  breaks = Breaks-none old.point input new.point.short (sym short);
  answers = answers ∙ sym (append-nil old.answers);
}

-- a malformed line is refused
pub refused_line : {B : Type 0} (old new : Engine B) (stop : Stop) → Refused old new stop → reading old.line.items ≡ MalformedLine → AnswersLine old new (Err stop)
refused_line old new Malformed h line = record {
  text = printed_line (Wrong (suc old.lines));
  number = suc old.lines;
  ends = rw (h.0) (ends_malformed (point_of old) line);
  answers = h.1;
}
refused_line old new NoMemory h line = fails_none (value_of old) (value_of new) (10 ∷ []) h.0 h.1
refused_line old new TooLong h line = absurd h

-- so is one that goes beyond the limit
pub refused_long : {B : Type 0} (old new : Engine B) (stop : Stop) (b : ℕ) → Refused old new stop → 4096 ≤ length old.line.items → (b ≡ 10 → ⊥)
    → Steps (value_of old) (value_of new) (b ∷ []) (Err stop)
refused_long old new Malformed b h long ne = record {
  text = printed_line (Wrong (suc old.lines));
  number = suc old.lines;
  ends = rw (h.0) (ends_long (point_of old) b long ne);
  answers = h.1;
}
refused_long old new NoMemory b h long ne = fails_none (value_of old) (value_of new) (b ∷ []) h.0 h.1
refused_long old new TooLong b h long ne = absurd h

-- a command is obeyed
pub obeyed_line : {B : Type 0} (command : Command) (old new : Engine B) (r : Result (Unit {0}) Stop) → Obeyed command old new r → new.lines ≡ old.lines
    → reading old.line.items ≡ Spoken command → AnswersLine old new r
obeyed_line command old new (Ok _) h lines line = record {
  text = printed_line (line_of new.out.items h.0.line);
  goes = rw (lines, h.1.callers, h.1.short) (goes_spoken (point_of old) command h.0 new.out.items (pair_of new) line h.1.leads);
  answers = h.2;
}
obeyed_line command old new (Err Malformed) h lines line = absurd h
obeyed_line command old new (Err TooLong) h lines line = absurd h
obeyed_line command old new (Err NoMemory) h lines line =
    elim h.0 [
      | inl same ↦ fails_none (value_of old) (value_of new) (10 ∷ []) same h.1
      | inr done ↦ record {
        text = [];
        breaks = Breaks-unsaid (point_of old) _ (10 ∷ []) _ new.short
            (goes_spoken (point_of old) command done.0 new.out.items (pair_of new) line done.1.leads) (sym done.1.short);
        answers = h.1 ∙ sym (append-nil old.answers.items);
      }
    ]

-- what comes behind bytes that were taken
pub Took-none : (e : SessionValue) → Took e e []
Took-none e = record { text = []; goes = Goes-none e.point; answers = sym (append-nil e.answers) }

pub Took-join : (e m n : SessionValue) (i j : List ℕ) → Took e m i → Took m n j → Took e n (i ++ j)
Took-join e m n i j x y = record {
  text = x.text ++ y.text;
  goes = Goes-join e.point m.point n.point i j x.text y.text x.goes y.goes;
  answers = y.answers ∙ ap (λ k. k ++ y.text) x.answers ∙ append_assoc e.answers x.text y.text;
}

-- a stop among bytes, and more of them behind it
pub stop_join : (e m n : SessionValue) (i j k : List ℕ) (stop : Stop) → Took e m i → Steps m n j (Err stop) → Steps e n ((i ++ j) ++ k) (Err stop)
stop_join e m n i j k Malformed x y = record {
  text = x.text ++ y.text;
  number = y.number;
  ends = Ends-more e.point (i ++ j) k (x.text ++ y.text) n.point.short y.number
      (Ends-join e.point m.point i j x.text y.text n.point.short y.number x.goes y.ends);
  answers = y.answers ∙ ap (λ k. k ++ y.text) x.answers ∙ append_assoc e.answers x.text y.text;
}
stop_join e m n i j k TooLong x y = absurd y
stop_join e m n i j k NoMemory x y = record {
  text = x.text ++ y.text;
  breaks = Breaks-more e.point (i ++ j) k (x.text ++ y.text) n.point.short
      (Breaks-join e.point m.point i j x.text y.text n.point.short x.goes y.breaks);
  answers = y.answers ∙ ap (λ k. k ++ y.text) x.answers ∙ append_assoc e.answers x.text y.text;
}

-- a byte joins the line
pub took_byte : {B : Type 0} (old new : Engine B) (b : ℕ) → new.callers ≡ old.callers → pair_of new ≡ pair_of old → new.lines ≡ old.lines → new.short ≡ old.short
    → new.answers.items ≡ old.answers.items → new.line.items ≡ old.line.items ++ b ∷ [] → (b ≡ 10 → ⊥) → Took (value_of old) (value_of new) (b ∷ [])
took_byte old new b callers pair lines short answers line ne = record {
  text = [];
  goes = rw (callers, pair, lines, short, line) (goes_byte (point_of old) b ne);
  answers = answers ∙ sym (append-nil old.answers.items);
}

-- the end of the input behind a whole line, and behind a line without its LF
pub finished_none : (e : SessionValue) → e.point.line ≡ [] → Finishes e e None
finished_none e h = record { text = []; says = Says-none e.point h; answers = sym (append-nil e.answers) }

pub finished_last : (old new : SessionValue) (r : Result (Unit {0}) Stop) → (old.point.line ≡ [] → ⊥) → Steps old new (10 ∷ []) r
    → OnOk r (new.point.line ≡ []) → EndsInput old new r
finished_last old new (Ok _) ne x fresh = record {
  text = x.text;
  says = Says-last old.point x.text new.point.short None ne
      (rw (sym (append-nil x.text)) (Says-behind old.point new.point (10 ∷ []) [] x.text [] new.point.short None x.goes (Says-none new.point fresh)));
  answers = x.answers;
}
finished_last old new (Err Malformed) ne x fresh = (
  x.number,
  record {
    text = x.text;
    says = Says-last old.point x.text new.point.short (Some x.number) ne (Says-ended old.point (10 ∷ []) [] x.text new.point.short x.number x.ends);
    answers = x.answers;
  },
)
finished_last old new (Err TooLong) ne x fresh = absurd x
finished_last old new (Err NoMemory) ne x fresh = record {
  text = x.text;
  shows = Shows-last old.point x.text new.point.short ne (Shows-broken old.point (10 ∷ []) [] x.text new.point.short x.breaks);
  answers = x.answers;
}

-- what the engine did is what a session did that isn't too long
pub Steps-taken : (old new : SessionValue) (input : List ℕ) (r : Result (Unit {0}) Stop) → Steps old new input r → Takes old new input r
Steps-taken old new input (Ok _) x = x
Steps-taken old new input (Err Malformed) x = x
Steps-taken old new input (Err NoMemory) x = x
Steps-taken old new input (Err TooLong) x = absurd x

pub Steps-short : (old new : SessionValue) (input : List ℕ) (r : Result (Unit {0}) Stop) → Steps old new input r → r ≡ Err TooLong → ⊥
Steps-short old new input (Ok _) x e = cc
Steps-short old new input (Err Malformed) x e = cc
Steps-short old new input (Err NoMemory) x e = cc
Steps-short old new input (Err TooLong) x e = x

pub EndsInput-taken : (old new : SessionValue) (r : Result (Unit {0}) Stop) → EndsInput old new r → TakesEnd old new r
EndsInput-taken old new (Ok _) x = x
EndsInput-taken old new (Err Malformed) x = x
EndsInput-taken old new (Err NoMemory) x = x
EndsInput-taken old new (Err TooLong) x = absurd x

pub EndsInput-short : (old new : SessionValue) (r : Result (Unit {0}) Stop) → EndsInput old new r → r ≡ Err TooLong → ⊥
EndsInput-short old new (Ok _) x e = cc
EndsInput-short old new (Err Malformed) x e = cc
EndsInput-short old new (Err NoMemory) x e = cc
EndsInput-short old new (Err TooLong) x e = x
