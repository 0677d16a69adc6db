-- A put at ldterm adds no more moves than its message costs, where it is the one ldterm of a pair.
use Rattle.strm_laws.proofs.Prelude.{ℕ, suc, ◌≡◌, ◌≤◌, ◌<◌, ◌+◌, ◌-◌, ◌*◌, Bool, true, false, cond, List, [], ◌∷◌, ◌++◌, length, refl, ap, ◌∙◌, arith}
use Rattle.strm_laws.proofs.Prelude.{◌&&◌, ◌||◌, ◌==◌, not, nat_le, None, nat_tests, either, sum-put}
use Rattle.strm_laws.specs.Prelude.{FlushAsked, TCSETSF, MsgKind, Data, Proto, Ioctl, Side, Way, Up, Down, Flushed, Spot, Termios, is_ioctl, Acted}
use Rattle.strm_laws.specs.Prelude.{Parcel, onward, of_data, asked_by, flush_message, is_flush, read_flush, read_ioc, ldterm_puts, waits_behind}
use Rattle.strm_laws.specs.Prelude.{waits_on, Discipline, both, flush_passes, line_flushed, queue_flushed, queued_at, read_flushed, sends}
use Rattle.strm_laws.specs.Prelude.{takes_band_0, waits_there, without_line, write_flushed, Message, cells_of, data_message, has_parts, rank_of}
use Rattle.strm_laws.specs.Prelude.{other, mode_message, line_gone, ends_lines, input_flushed, line_up, read_mode_of, taken_up, termios_taken, tostop}
use Rattle.strm_laws.specs.Prelude.{up_alone}
use Rattle.strm_laws.specs.Rest.{echoes, ldterm_moves, moves_above, moves_in, moves_out, moves_within}
use Rattle.strm_laws.specs.StackCosts.{Stands}
use Rattle.strm_types.proofs.LdtermPuts.{puts-each}
use Rattle.strm_laws.proofs.RestCosts.{at_or_above, at_or_below, onward-falls, sinks_by, toll, toll_at}
use Rattle.strm_laws.proofs.RestPuts.{behind-less, tolls, tolls-both}

-- what waits on the way up, and on the way down
in-paid : (kind : MsgKind) (n : ℕ) → (waits_there kind || false) ≡ true → moves_within kind n ≤ moves_above kind true n
in-paid Data n is = omega arith
in-paid Proto n is = omega arith
in-paid kind n is = absurd (cc)

out-paid : (kind : MsgKind) (parts behind : Bool) (n : ℕ) → (waits_there kind || (is_ioctl kind && not parts) && behind) ≡ true
    → suc (suc (moves_above kind false n)) + 2 * n ≤ cond (is_flush kind && not parts) 0 (sinks_by kind true n + suc (moves_above kind false n))
out-paid Data parts behind n is = omega arith
out-paid Proto parts behind n is = omega arith
out-paid Ioctl parts behind n is = omega arith
out-paid kind parts behind n is = absurd (cc)

le-itself : (n : ℕ) → nat_le n n ≡ true
le-itself n = grind (arith, nat_tests)

not-below : (n : ℕ) → 0 < n → nat_le n (n - 1) ≡ false
not-below n some = let less : n - 1 < n = omega (arith, some) in grind (arith, nat_tests)

module _ {C : Type 0} (all : Stands) (posts : Side → ℕ) (here : Spot) (some : 0 < here.at)
    (echoed : echoes all here.side ≡ true) (alone : echoes all (other here.side) ≡ false) (post : posts here.side ≡ here.at) where
  -- what goes up from it has no ldterm ahead
  pub past-it : (m : Message C) → toll_at all posts Up here.side (here.at - 1) m ≡ moves_above m.kind false (length (cells_of m))
  past-it m =
      let first = ap (λ (b : Bool). moves_above m.kind (at_or_above b (posts here.side) (here.at - 1)) (length (cells_of m))) echoed in
      let second = ap (λ (n : ℕ). moves_above m.kind (nat_le n (here.at - 1)) (length (cells_of m))) post in
      first ∙ second ∙ ap (λ (b : Bool). moves_above m.kind b (length (cells_of m))) (not-below here.at some)

  -- and what comes to it does
  at-it : (m : Message C) → toll_at all posts Up here.side here.at m ≡ moves_above m.kind true (length (cells_of m))
  at-it m =
      let first = ap (λ (b : Bool). moves_above m.kind (at_or_above b (posts here.side) here.at) (length (cells_of m))) echoed in
      let second = ap (λ (n : ℕ). moves_above m.kind (nat_le n here.at) (length (cells_of m))) post in
      first ∙ second ∙ ap (λ (b : Bool). moves_above m.kind b (length (cells_of m))) (le-itself here.at)

  down-it : (m : Message C) → toll_at all posts Down here.side here.at m ≡ cond (is_flush m.kind && not (has_parts m)) 0 (sinks_by m.kind true (length (cells_of m)) + suc (moves_above m.kind false (length (cells_of m))))
  down-it m =
      ap (λ (b : Bool). cond (is_flush m.kind && not (has_parts m)) 0 (sinks_by m.kind (at_or_below b (posts here.side) here.at) (length (cells_of m)) + suc (moves_above m.kind (echoes all (other here.side)) (length (cells_of m))))) echoed
      ∙ ap (λ (b : Bool). cond (is_flush m.kind && not (has_parts m)) 0 (sinks_by m.kind (nat_le here.at (posts here.side)) (length (cells_of m)) + suc (moves_above m.kind b (length (cells_of m))))) alone
      ∙ ap (λ (n : ℕ). cond (is_flush m.kind && not (has_parts m)) 0 (sinks_by m.kind (nat_le here.at n) (length (cells_of m)) + suc (moves_above m.kind false (length (cells_of m))))) post
      ∙ ap (λ (b : Bool). cond (is_flush m.kind && not (has_parts m)) 0 (sinks_by m.kind b (length (cells_of m)) + suc (moves_above m.kind false (length (cells_of m))))) (le-itself here.at)

  -- data that goes up from it moves no more
  pub data-past : (xs : List C) → toll_at all posts Up here.side (here.at - 1) (data_message xs) ≡ 0
  unfolding data_message
  data-past xs = past-it (data_message xs)

  abbrev Adds : Acted C (Discipline C) → ℕ → Type 0
  Adds t n = ldterm_moves t.state + tolls all posts t.sent ≤ n

  -- flushes
  queue-less : (way : Way) (asked : FlushAsked) (l : Discipline C) → Adds (queue_flushed way here asked.band l) (ldterm_moves l)
  queue-less Up asked l = omega (arith, behind-less moves_in (of_data asked.band) l.read_queue)
  queue-less Down asked l = omega (arith, behind-less moves_out (of_data asked.band) l.write_queue)

  line-less : (asked : FlushAsked) (l : Discipline C) → Adds (line_flushed here asked.band l) (ldterm_moves l)
  line-less asked l = either (λ t. Adds t (ldterm_moves l)) (takes_band_0 asked.band) (record (sends [] (without_line l)) { gone = line_gone here.side Flushed l.line }) (sends [] l) (omega arith) (omega arith)

  both-less : (t : Acted C (Discipline C)) (next : Discipline C → Acted C (Discipline C)) (n k : ℕ) → Adds t n → Adds (next t.state) (ldterm_moves t.state + k) → Adds (both t next) (n + k)
  both-less t next n k first second = omega (arith, first, second, tolls-both all posts t.sent (next t.state).sent)

  pub read-less : (asked : FlushAsked) (l : Discipline C) → Adds (read_flushed here asked l) (ldterm_moves l)
  read-less asked l = either (λ t. Adds t (ldterm_moves l)) asked.for_read (both (queue_flushed Up here asked.band l) (line_flushed here asked.band)) (sends [] l)
      (omega (arith, both-less (queue_flushed Up here asked.band l) (line_flushed here asked.band) (ldterm_moves l) 0 (queue-less Up asked l) (omega (arith, line-less asked (queue_flushed Up here asked.band l).state))))
      (omega arith)

  write-less : (asked : FlushAsked) (l : Discipline C) → Adds (write_flushed here asked l) (ldterm_moves l)
  write-less asked l = at asked.for_write
    where
      at : (b : Bool) → Adds (cond b (queue_flushed Down here asked.band (record l { echoing = l.echoing && not (takes_band_0 asked.band) })) (sends [] l)) (ldterm_moves l)
      at true = queue-less Down asked (record l { echoing = l.echoing && not (takes_band_0 asked.band) })
      at false = omega arith

  module _ (m : Message C) where
    abbrev Pays : Discipline C → Acted C (Discipline C) → Type 0
    Pays l t = Adds t (ldterm_moves l + toll all posts here m)

    flush-pays : (l : Discipline C) → Pays l (flush_passes here m l)
    flush-pays l =
        let asked = asked_by m.plain in
        let first = read_flushed here asked l in
        let behind = both first (write_flushed here asked) in
        let quiet = both-less first (write_flushed here asked) (ldterm_moves l) 0 (read-less asked l) (omega (arith, write-less asked first.state)) in
        both-less behind (sends (onward here.way here m ∷ [])) (ldterm_moves l) (toll all posts here m) (omega (arith, quiet)) (omega (arith, onward-falls all posts here.way here m))

    waits-pays : (way : Way) (l : Discipline C) → here.way ≡ way → waits_on way m ≡ true → Pays l (queued_at way m l)
    waits-pays Up l way is =
        let paid : moves_in m ≤ toll all posts here m =
        (let this = ap (λ (w : Way). toll_at all posts w here.side here.at m) way ∙ at-it m in omega (arith, this, in-paid m.kind (length (cells_of m)) is)) in
        omega (arith, paid, sum-put rank_of moves_in m l.read_queue.messages)
    waits-pays Down l way is =
        let paid : moves_out m ≤ toll all posts here m =
        (let this = ap (λ (w : Way). toll_at all posts w here.side here.at m) way ∙ down-it m in omega (arith, this, out-paid m.kind (has_parts m) (waits_behind (read_ioc m.plain)) (length (cells_of m)) is)) in
        omega (arith, paid, sum-put rank_of moves_out m l.write_queue.messages)

    -- the answer that sets a termios: it goes on, and what else goes up moves no more
    flushed-pays : (command : ℕ) (l : Discipline C) → Adds (input_flushed here command l) (ldterm_moves l)
    flushed-pays command l =
        let up : List (Parcel C) = onward Up here (flush_message (read_flush None)) ∷ [] in
        let none = past-it (flush_message (read_flush None)) in
        either (λ t. Adds t (ldterm_moves l)) (command == TCSETSF) (both (read_flushed here up_alone l) (sends up)) (sends [] l)
        (omega (arith, both-less (read_flushed here up_alone l) (sends up) (ldterm_moves l) 0 (read-less up_alone l) (omega (arith, none))))
        (omega arith)

    line-none : (line : List C) → tolls all posts (line_up here line) ≡ 0
    line-none [] = refl
    line-none (c ∷ more) = omega (arith, data-past (c ∷ more))

    termios-pays : here.way ≡ Up → (t : Termios) (l : Discipline C) → Pays l (termios_taken here t m l)
    termios-pays way t l = at (ends_lines l.termios t)
      where
        rest : List (Parcel C)
        rest = onward Up here (mode_message (read_mode_of t) (tostop t)) ∷ onward Up here m ∷ []

        next : toll_at all posts Up here.side (here.at - 1) m ≤ toll all posts here m
        next = let same = ap (λ (w : Way). toll_at all posts w here.side here.at m) way in omega (arith, same, onward-falls all posts Up here m)

        at : (ends : Bool) → Pays l (sends (cond ends (line_up here l.line) [] ++ rest) (record l { termios = t; line = cond ends [] l.line }))
        at true = omega (arith, next, line-none l.line, tolls-both all posts (line_up here l.line) rest, past-it (mode_message {C = C} (read_mode_of t) (tostop t)))
        at false = omega (arith, next, past-it (mode_message {C = C} (read_mode_of t) (tostop t)))

    taken-pays : here.way ≡ Up → (command : ℕ) (t : Termios) (l : Discipline C) → Pays l (taken_up here command t m l)
    taken-pays way command t l =
        both-less (input_flushed here command l) (termios_taken here t m) (ldterm_moves l) (toll all posts here m) (flushed-pays command l) (termios-pays way t (input_flushed here command l).state)

    pub ldterm-pays : (l : Discipline C) → Pays l (ldterm_puts here m l)
    ldterm-pays l = puts-each here m l (Pays l) (record {
      waits = λ is. waits-pays here.way l refl is;
      flushes = λ is. flush-pays l;
      passes = omega (arith, onward-falls all posts here.way here m);
      taken = λ way acked ioc t. taken-pays way ioc.command t l;
    })
