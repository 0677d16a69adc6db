-- What an M_FLUSH takes from the module, step by step.
use Rattle.strm_ldterm.proofs.Prelude.{ℕ, ◌≡◌, Bool, true, false, cond, List, [], ◌∷◌, ◌++◌, refl, sym, ap, subst, ◌∙◌, arith, append-nil, Option}
use Rattle.strm_ldterm.proofs.Prelude.{◌&&◌, not}
use Rattle.strm_ldterm.specs.Prelude.{Band, Up, Down, Fates, Flushed, Note, Room, Spot, Acted, Fate, Goes, counted_with, tallied, Choice, of_data}
use Rattle.strm_ldterm.specs.Prelude.{cells_gone, stayed, sends, both, queue_flushed, line_flushed, read_flushed, write_flushed, takes_band_0, AreIn}
use Rattle.strm_ldterm.specs.Prelude.{FlushAsked, direction_at, StoreValue, Queue, queue_in, messages_on, Changes, FreesBlocks}
use Rattle.strm_types.specs.Emptied.{emptied, none_goes, queue_behind, writer_goes}
use Rattle.strm_types.specs.Ldterms as ldterms
use Rattle.strm_types.specs.Queue as plain
use Rattle.strm_ldterm.specs.Stands.{ldterm_in, keeps, EndsPlain, IsHeld, Paired}
use Rattle.strm_ldterm.specs.Does.{Alters, Flushes}
use Rattle.strm_ldterm.proofs.Beside.{alters-quieter, read-plain, read-alters, write-plain, write-alters}
use Rattle.strm_ldterm.proofs.Last.{ends-flushed}

pub tallied-append : (a b : List (Fate ℕ)) (f : Fates) → tallied (a ++ b) f ≡ tallied b (tallied a f)
tallied-append [] b f = refl
tallied-append (x ∷ a) b f = tallied-append a b (counted_with x f)

-- what stays on a queue that is flushed
behind-messages : (chosen : Choice) (q : plain.Queue ℕ) → (queue_behind chosen q).messages ≡ stayed chosen q.messages
behind-messages chosen q =
    elim (none_goes chosen q) as (λ v. (cond {A = plain.Queue ℕ} v (emptied chosen q) (plain.relieved (emptied chosen q))).messages ≡ stayed chosen q.messages) [ true ↦ refl | false ↦ refl ]

pub alters-none : (s : StoreValue) (x : Paired) → IsHeld s x → Alters s s x x
alters-none s x held = record {
  held = held;
  own = record { lists = λ k none. refl; owns_same = λ k. refl };
  fewer = λ i. omega arith;
  hands = record { counts = λ i. refl; others = λ i gone kept some. refl };
  frees = record { mblks = omega arith; dblks = omega arith };
  pool = record { mblks = refl; dblks = refl };
}

pub alters-both : (s t u : StoreValue) (x y z : Paired) → Alters s t x y → Alters t u y z → Alters s u x z
alters-both s t u x y z first second = record {
  held = second.held;
  own = record {
    lists = λ k none. second.own.lists k (first.own.owns_same k ∙ none) ∙ first.own.lists k none;
    owns_same = λ k. second.own.owns_same k ∙ first.own.owns_same k;
  };
  fewer = λ i. let a = first.fewer i in let b = second.fewer i in omega arith;
  hands = record {
    counts = λ i. let a = first.hands.counts i in let b = second.hands.counts i in omega arith;
    others = λ i gone kept some.
        let a = first.hands.counts i in let few = first.fewer i in
        second.hands.others i refl (omega arith) (omega arith) ∙ first.hands.others i refl kept some;
  };
  frees = record { mblks = (let a = first.frees.mblks in let b = second.frees.mblks in omega arith); dblks = (let a = first.frees.dblks in let b = second.frees.dblks in omega arith) };
  pool = record { mblks = second.pool.mblks ∙ first.pool.mblks; dblks = second.pool.dblks ∙ first.pool.dblks };
}

-- nothing goes
pub flushes-none : (s : StoreValue) (x : Paired) (notes : List Note) (f : Fates) → IsHeld s x → notes ≡ [] → Flushes s s x x notes f f (sends [] (ldterm_in s x))
flushes-none s x notes f held none = record { state = refl; noted = none; told = refl; alters = alters-none s x held }

-- one after the other
pub flushes-both : (s t u : StoreValue) (x y z : Paired) (ns ms notes : List Note) (f f1 f2 : Fates) (a : Acted ℕ (ldterms.Discipline ℕ)) (next : ldterms.Discipline ℕ → Acted ℕ (ldterms.Discipline ℕ))
    → Flushes s t x y ns f f1 a → Flushes t u y z ms f1 f2 (next (ldterm_in t y)) → notes ≡ ns ++ ms → Flushes s u x z notes f f2 (both a next)
flushes-both s t u x y z ns ms notes f f1 f2 a next first second joined = record {
  state = second.state ∙ ap (λ p. (next p).state) first.state;
  noted = joined ∙ ap (λ l. l ++ ms) first.noted ∙ ap (λ l. a.notes ++ l) second.noted ∙ ap (λ p. a.notes ++ (next p).notes) first.state;
  told =
      second.told ∙ ap (λ g. tallied (next (ldterm_in t y)).gone g) first.told ∙ ap (λ p. tallied (next p).gone (tallied a.gone f)) first.state
      ∙ sym (tallied-append a.gone (next a.state).gone f);
  alters = alters-both s t u x y z first.alters second.alters;
}

module _ (s t : StoreValue) (x : Paired) (q' : Queue) (here : Spot) (band : Option Band) (room : Bool) (notes : List Note) (f f' : Fates) (held : IsHeld s x) (frees : FreesBlocks s t) where
  pub flushes-up : Changes s t x.read_queue q' → queue_in t q' ≡ queue_behind (of_data band) (queue_in s x.read_queue) → room ≡ writer_goes (of_data band) (queue_in s x.read_queue)
      → f' ≡ counted_with (Goes (direction_at Up here.side) Flushed (cells_gone (of_data band) (messages_on s x.read_queue.list))) f → notes ≡ cond room (Room Up ∷ []) []
      → Flushes s t x (record x { read_queue = q' }) notes f f' (queue_flushed Up here band (ldterm_in s x))
  flushes-up changes is went told noted = record {
    state = read-plain s t x q' held changes ∙ ap (λ (q : plain.Queue ℕ). record (ldterm_in s x) { read_queue = q }) is;
    noted = noted ∙ ap (λ v. cond {A = List Note} v (Room Up ∷ []) []) went;
    told = told;
    alters = read-alters s t x q' held changes frees;
  }

  -- the turn's echo stands last still, unless band 0 is taken
  pub flushes-down : Changes s t x.write_queue q' → queue_in t q' ≡ queue_behind (of_data band) (queue_in s x.write_queue) → room ≡ writer_goes (of_data band) (queue_in s x.write_queue)
      → f' ≡ counted_with (Goes (direction_at Down here.side) Flushed (cells_gone (of_data band) (messages_on s x.write_queue.list))) f → notes ≡ cond room (Room Down ∷ []) []
      → (x.echoing ≡ true → takes_band_0 band ≡ false) → Flushes s t x (record x { write_queue = q' }) notes f f' (queue_flushed Down here band (ldterm_in s x))
  flushes-down changes is went told noted other =
      let w = queue_in s x.write_queue in
      record {
        state = write-plain s t x q' held changes ∙ ap (λ (q : plain.Queue ℕ). record (ldterm_in s x) { write_queue = q }) is;
        noted = noted ∙ ap (λ v. cond {A = List Note} v (Room Down ∷ []) []) went;
        told = told;
        alters = write-alters s t x q' held changes frees (λ on busy.
            subst EndsPlain (sym (ap (λ (q : plain.Queue ℕ). q.messages) is ∙ behind-messages (of_data band) w))
            (ends-flushed band (messages_on s x.write_queue.list) (other on) (held.echoes on busy)));
      }

-- the line goes after the queue
pub line-after : (s t : StoreValue) (x y z : Paired) (here : Spot) (asked : FlushAsked) (notes : List Note) (f f1 f2 : Fates) → asked.for_read ≡ true
    → Flushes s t x y notes f f1 (queue_flushed Up here asked.band (ldterm_in s x)) → Flushes t t y z [] f1 f2 (line_flushed here asked.band (ldterm_in t y))
    → Flushes s t x z notes f f2 (read_flushed here asked (ldterm_in s x))
line-after s t x y z here asked notes f f1 f2 reads first second =
    let p = ldterm_in s x in
    let done = both (queue_flushed Up here asked.band p) (line_flushed here asked.band) in
    subst (λ v. Flushes s t x z notes f f2 (cond v done (sends [] p))) (sym reads)
    (flushes-both s t t x y z notes [] notes f f1 f2 (queue_flushed Up here asked.band p) (line_flushed here asked.band) first second (sym (append-nil notes)))

-- FLUSHW, with the turn's echo where band 0 goes
pub write-after : (s t : StoreValue) (x z : Paired) (here : Spot) (asked : FlushAsked) (notes : List Note) (f f2 : Fates) (v : Bool) → v ≡ (x.echoing && not (takes_band_0 asked.band)) → asked.for_write ≡ true
    → Flushes s t (record x { echoing = v }) z notes f f2 (queue_flushed Down here asked.band (record (ldterm_in s x) { echoing = v })) → Flushes s t x z notes f f2 (write_flushed here asked (ldterm_in s x))
write-after s t x z here asked notes f f2 v is writes done =
    let p = ldterm_in s x in
    let same = subst (λ w. Flushes s t (record x { echoing = v }) z notes f f2 (queue_flushed Down here asked.band (record p { echoing = w }))) is done in
    subst (λ w. Flushes s t x z notes f f2 (cond w (queue_flushed Down here asked.band (record p { echoing = x.echoing && not (takes_band_0 asked.band) })) (sends [] p))) (sym writes)
    (record { state = same.state; noted = same.noted; told = same.told; alters = alters-quieter s t x z v same.alters })

pub write-none : (s : StoreValue) (x : Paired) (here : Spot) (asked : FlushAsked) (f : Fates) → IsHeld s x → asked.for_write ≡ false → Flushes s s x x [] f f (write_flushed here asked (ldterm_in s x))
write-none s x here asked f held writes =
    let p = ldterm_in s x in
    subst (λ w. Flushes s s x x [] f f (cond w (queue_flushed Down here asked.band (record p { echoing = x.echoing && not (takes_band_0 asked.band) })) (sends [] p))) (sym writes)
    (flushes-none s x [] f held refl)

-- what it keeps is in hand still
pub kept-still : (s u : StoreValue) (x y : Paired) → Alters s u x y → AreIn s (λ _. 0) (keeps x) → AreIn u (λ _. 0) (keeps y)
kept-still s u x y alters are = record { apart = λ j. let a = are.apart j in let c = alters.hands.counts j in omega arith }
