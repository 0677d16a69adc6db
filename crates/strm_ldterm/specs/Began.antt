-- What the beginning of a turn of the read queue did.
use Rattle.std.specs.Prelude.{ℕ, ◌≡◌, true, false, List, [], ◌∷◌, length, Option, Some, unwrap_or}
use Rattle.strm_types.specs.declared.kinds.MsgKind.TheVariants as kinds
use Rattle.strm_ldterm.specs.Prelude.{Up, Fates, Spot, plain, input_begins, treats, sends, Message, cells_of, left_with, Serving, StoreValue, Sent}
use Rattle.strm_ldterm.specs.Prelude.{sent_of}
use Rattle.strm_types.specs.Ldterms as ldterms
use Rattle.strm_ldterm.specs.declared.turn_starts.InputBegun.{InputBegun}
use Rattle.strm_ldterm.specs.declared.turn_starts.InputBegun.TheVariants as begun
use Rattle.strm_ldterm.specs.Bounds.{passes_whole}
use Rattle.strm_ldterm.specs.Does.{Proceeds}
use Rattle.strm_ldterm.specs.Stands.{ldterm_in, Paired}

module _ (old new : StoreValue) (here : Spot) (x x' : Paired) where
  -- what the definition says, where it may stop after so many bytes
  abbrev pub input_of : Option ℕ → Serving ℕ (ldterms.Discipline ℕ)
  input_of stop = let p = ldterm_in old x in input_begins plain here stop 0 p.read_queue.messages p

  -- Nothing stood there, or a message passes whole: these parcels, of so many bytes. The turn isn't called again.
  pub record BeganWhole (sent : List Sent) (bytes : ℕ) : Type 0 where
    pub passes : (stop : Option ℕ) (f : Fates) → Proceeds old new x x' 0 [] sent f f (input_of stop).acted
    pub size : (stop : Option ℕ) → bytes ≡ (input_of stop).bytes
    pub again : (stop : Option ℕ) → (input_of stop).again ≡ false
    pub whole : passes_whole Up false (ldterm_in old x) ≡ true

  -- The first message is M_DATA of so many bytes, and is in work: what the definition says is what treating it says.
  pub record BeganWork (bytes : ℕ) : Type 0 where
    pub message : Message ℕ
    pub rest : List (Message ℕ)
    pub first : (ldterm_in old x).read_queue.messages ≡ message ∷ rest
    pub kind : message.kind ≡ kinds.Data
    pub size : bytes ≡ length (cells_of message)
    pub works : (f : Fates) → let p = ldterm_in old x in
        Proceeds old new x x' 0 [] [] f f (sends [] (record p { read_queue = left_with rest p.read_queue; in_work = Some message }))
    pub treated : (stop : Option ℕ) → input_of stop ≡ treats plain here (unwrap_or stop bytes) 0 (ldterm_in new x')
    pub stage : (ldterm_in new x').stage ≡ (ldterm_in old x).stage

  -- by what the function says
  abbrev pub BeganAs : InputBegun → Type 0
  BeganAs begun.Empty = BeganWhole [] 0
  BeganAs (begun.Whole passed) = BeganWhole (sent_of passed.sent) passed.bytes
  BeganAs (begun.InWork bytes) = BeganWork bytes
