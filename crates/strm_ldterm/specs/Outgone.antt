-- What a turn of the write queue did (ldterm(7M), "Write-side Behavior"; srv(9E); putbq(9F)).
use Rattle.std.specs.Prelude.{ℕ, ◌≡◌, ◌<◌, Bool, true, false, List, [], ◌∷◌, length, map, Option, None, Some}
use Rattle.strm_types.specs.declared.kinds.MsgKind.TheVariants as kinds
use Rattle.strm_ldterm.specs.Prelude.{Down, Fates, Spot, plain, Acted, onward, back_on, sends, Message, cells_of, output_serves, with_given}
use Rattle.strm_ldterm.specs.Prelude.{left_with, Serving, opost, StoreValue, Sent, sent_of}
use Rattle.strm_types.specs.Ldterms as ldterms
use Rattle.strm_ldterm.specs.declared.turn_starts.OutputBegun.{OutputBegun}
use Rattle.strm_ldterm.specs.declared.turn_starts.OutputBegun.TheVariants as begun
use Rattle.strm_ldterm.specs.Bounds.{passes_whole}
use Rattle.strm_ldterm.specs.Does.{Proceeds}
use Rattle.strm_ldterm.specs.Stands.{ldterm_in, Paired}

-- M_DATA of a band
abbrev pub data_of : ℕ → List ℕ → Message ℕ
data_of band bytes = record { kind = kinds.Data; band = band; control = None; body = Some bytes; plain = [] }

-- What was gathered goes down as one M_DATA of a band, where there is any, and what is left of the message in work goes back to the front of
-- the write queue.
abbrev pub let_go : Spot → ℕ → ldterms.Discipline ℕ → Acted ℕ (ldterms.Discipline ℕ)
let_go here band p =
    sends (map (onward Down here) (with_given p.gathered (data_of band []))) (record p { gathered = []; in_work = None; write_queue = back_on p.in_work p.write_queue })

module _ (old new : StoreValue) (here : Spot) (x x' : Paired) where
  -- what the definition says, where it may stop after so many bytes
  abbrev pub output_of : Option ℕ → Serving ℕ (ldterms.Discipline ℕ)
  output_of stop = let p = ldterm_in old x in output_serves plain here stop 0 p.write_queue.messages p

  -- Nothing stood there, or a message passes whole: these parcels, of so many bytes.
  pub record PassedDown (sent : List Sent) (bytes : ℕ) : Type 0 where
    pub passes : (stop : Option ℕ) (f : Fates) → Proceeds old new x x' 0 [] sent f f (output_of stop).acted
    pub size : (stop : Option ℕ) → bytes ≡ (output_of stop).bytes
    pub again : (stop : Option ℕ) → (output_of stop).again ≡ false
    pub whole : (again : Bool) → passes_whole Down again (ldterm_in old x) ≡ true

  -- The first message is M_DATA of so many bytes and of a band, goes out under OPOST, and is in work. Nothing else is under way.
  pub record BeganOutput (bytes band : ℕ) : Type 0 where
    pub message : Message ℕ
    pub rest : List (Message ℕ)
    pub first : (ldterm_in old x).write_queue.messages ≡ message ∷ rest
    pub is : message ≡ data_of band (cells_of message)
    pub output : opost (ldterm_in old x).termios ≡ true
    pub some : 0 < bytes
    pub size : bytes ≡ length (cells_of message)
    pub idle : (ldterm_in old x).in_work ≡ None
    pub none : (ldterm_in old x).gathered ≡ []
    pub quiet : (ldterm_in old x).echoing ≡ false
    pub works : (f : Fates) → let p = ldterm_in old x in
        Proceeds old new x x' 0 [] [] f f (sends [] (record p { write_queue = left_with rest p.write_queue; in_work = Some message }))

  -- by what the function says
  abbrev pub OutputBeganAs : OutputBegun → Type 0
  OutputBeganAs (begun.Whole passed) = PassedDown (sent_of passed.sent) passed.bytes
  OutputBeganAs (begun.InWork bytes band) = BeganOutput bytes band.0
