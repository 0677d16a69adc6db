-- What one step of a read draws, on plain messages.
use Rattle.strm_head.proofs.Prelude.{ℕ, ◌≡◌, ◌≤◌, ◌<◌, ◌+◌, ◌-◌, Bool, true, false, cond, List, [], ◌∷◌, ◌++◌, length, take, drop, min, refl, sym, ap}
use Rattle.strm_head.proofs.Prelude.{subst, ◌∙◌, arith, append-nil, ◌==◌, ◌&&◌, ◌||◌, nat_lt, nat_tests, take_all, nil_from_length, length-take}
use Rattle.strm_head.proofs.Prelude.{length-drop}
use Rattle.strm_head.specs.Prelude.{ReadMode, ByteStream, MessageKeep, MessageDiscard, ControlMode, Message, cells_of, Drawn, stopped, front_of}
use Rattle.strm_head.specs.Prelude.{shown, offered, rest_after, control_gone, is_passed, is_refused, no_cells, wanted_after}
use Rattle.std.proofs.Math.Decide.{dec_le}
use Rattle.strm_types.specs.Queue.{put_back}
use Rattle.strm_head.specs.Drawing.{but_dropped, drawn_on, discards, first_goes, more_behind, Stepped}
use Rattle.strm_head.proofs.Passed.{taken_of, drawn-taken, not-passed, not-refused, not-empty}

pub drawn-none : (read : ReadMode) (control : ControlMode) (begun : Bool) (q : List (Message ℕ)) → drawn_on read control begun 0 q ≡ stopped q
drawn-none read control begun [] = refl
drawn-none read control begun (m ∷ q) = refl

no-cells-some : (bytes : List ℕ) → 0 < length bytes → no_cells bytes ≡ false
no-cells-some [] some = absurd (omega arith)
no-cells-some (b ∷ bytes) some = refl

-- the front of a message, by its read mode
front-kept : (read : ReadMode) (n : ℕ) (gone : List ℕ) (m : Message ℕ) (q : List (Message ℕ)) → discards read ≡ false
    → but_dropped (front_of read n gone m q) ≡ record { given = take n (cells_of m); discarded = []; dropped = []; left = put_back (rest_after n m) q }
front-kept ByteStream n gone m q is = refl
front-kept MessageKeep n gone m q is = refl
front-kept MessageDiscard n gone m q is = absurd (cc)

front-discarded : (read : ReadMode) (n : ℕ) (gone : List ℕ) (m : Message ℕ) (q : List (Message ℕ)) → discards read ≡ true
    → but_dropped (front_of read n gone m q) ≡ record { given = take n (cells_of m); discarded = drop n (cells_of m); dropped = []; left = q }
front-discarded ByteStream n gone m q is = absurd (cc)
front-discarded MessageKeep n gone m q is = absurd (cc)
front-discarded MessageDiscard n gone m q is = refl

-- what a step comes to, with what is drawn behind it
abbrev with_more : List ℕ → List ℕ → Drawn ℕ → Drawn ℕ
with_more piece gone d = record { given = piece ++ d.given; discarded = gone ++ d.discarded; dropped = []; left = d.left }

-- the step that ends a read
pub ends : (read : ReadMode) (control : ControlMode) (begun : Bool) (wanted discarded : ℕ) (old new : List (Message ℕ)) (out out' piece gone : List ℕ)
    → 0 < wanted → out' ≡ out ++ piece → discarded ≡ length gone → length piece ≤ wanted
    → drawn_on read control begun wanted old ≡ record { given = piece; discarded = gone; dropped = []; left = new } → Stepped read control begun wanted 0 discarded old new out out'
ends read control begun wanted discarded old new out out' piece gone some given count most is = record {
  piece = piece;
  gone = gone;
  given = given;
  count = count;
  rest = is ∙ ap (λ xs. record { given = xs; discarded = gone; dropped = []; left = new }) (sym (append-nil piece))
      ∙ ap (λ xs. record { given = piece ++ []; discarded = xs; dropped = []; left = new }) (sym (append-nil gone))
      ∙ ap (with_more piece gone) (sym (drawn-none read control true new));
  most = omega arith;
  less = some;
  kept = λ more. absurd (omega arith);
}

-- a step that takes nothing
pub stays : (read : ReadMode) (control : ControlMode) (begun : Bool) (wanted : ℕ) (q : List (Message ℕ)) (out : List ℕ) → 0 < wanted → drawn_on read control begun wanted q ≡ stopped q → Stepped read control begun wanted 0 0 q q out out
stays read control begun wanted q out some is = ends read control begun wanted 0 q q out out [] [] some (sym (append-nil out)) refl (omega arith) is

-- a step of messages of which as much is drawn
pub stepped-from : (read : ReadMode) (control : ControlMode) (begun : Bool) (wanted more discarded : ℕ) (old mid new : List (Message ℕ)) (out out' : List ℕ) → drawn_on read control begun wanted old ≡ drawn_on read control begun wanted mid
    → Stepped read control begun wanted more discarded mid new out out' → Stepped read control begun wanted more discarded old new out out'
stepped-from read control begun wanted more discarded old mid new out out' same st = record {
  piece = st.piece;
  gone = st.gone;
  given = st.given;
  count = st.count;
  rest = same ∙ st.rest;
  most = st.most;
  less = st.less;
  kept = st.kept;
}

after-less : (read : ReadMode) (n size : ℕ) → size ≤ n → size + wanted_after read n size ≤ n
after-less ByteStream n size le = omega arith
after-less MessageKeep n size le = omega arith
after-less MessageDiscard n size le = omega arith

module _ (read : ReadMode) (control : ControlMode) (begun : Bool) (wanted : ℕ) (m : Message ℕ) (q old new : List (Message ℕ)) (out out' : List ℕ) (some : 0 < wanted) (stood : old ≡ m ∷ q) (takes : first_goes control begun (m ∷ q) ≡ true) where
  abbrev bytes : List ℕ
  bytes = offered control m

  drawn-old : drawn_on read control begun wanted old ≡ but_dropped (taken_of read control begun wanted [] m q)
  drawn-old =
      ap (drawn_on read control begun wanted) stood
      ∙ ap but_dropped (drawn-taken read control begun wanted some [] m q (not-passed (is_passed control m) (is_refused control m) (begun && no_cells bytes) takes) (not-refused (is_passed control m) (is_refused control m) (begun && no_cells bytes) takes))

  drawn-front : wanted < length bytes → drawn_on read control begun wanted old ≡ but_dropped (front_of read wanted (control_gone control m) (shown control m) q)
  drawn-front less =
      let short : nat_lt wanted (length bytes) ≡ true = grind (arith, nat_tests) in
      drawn-old ∙ rw (no-cells-some bytes (omega arith), short) refl

  drawn-whole : 0 < length bytes → length bytes ≤ wanted → drawn_on read control begun wanted old ≡ with_more bytes [] (drawn_on read control true (wanted_after read wanted (length bytes)) q)
  drawn-whole filled fits =
      let short : nat_lt wanted (length bytes) ≡ false = grind (arith, nat_tests) in
      drawn-old ∙ rw (no-cells-some bytes filled, short) refl

  first-empty : length bytes ≡ 0 → begun ≡ false
  first-empty none = at begun (ap (λ b. begun && b) (sym (ap no_cells (nil_from_length bytes none))) ∙ not-empty (is_passed control m) (is_refused control m) (begun && no_cells bytes) takes)
    where
      at : (b : Bool) → (b && true) ≡ false → b ≡ false
      at true is = absurd (cc)
      at false is = refl

  drawn-empty : length bytes ≡ 0 → drawn_on read control begun wanted old ≡ record { given = []; discarded = []; dropped = []; left = q }
  drawn-empty none = drawn-old ∙ rw (ap no_cells (nil_from_length bytes none), first-empty none) refl

  -- a message that is longer, and is put back
  pub kept : wanted < length bytes → discards read ≡ false → new ≡ put_back (rest_after wanted (shown control m)) q → out' ≡ out ++ take wanted bytes → Stepped read control begun wanted 0 0 old new out out'
  kept less keeps left given =
      ends read control begun wanted 0 old new out out' (take wanted bytes) [] some given refl (omega (arith, length-take wanted bytes))
      (drawn-front less ∙ front-kept read wanted (control_gone control m) (shown control m) q keeps ∙ ap (λ ms. record { given = take wanted bytes; discarded = []; dropped = []; left = ms }) (sym left))

  -- one that is longer, whose rest is discarded
  rest-gone : wanted < length bytes → discards read ≡ true → new ≡ q → out' ≡ out ++ take wanted bytes → Stepped read control begun wanted 0 (length bytes - wanted) old new out out'
  rest-gone less over left given =
      ends read control begun wanted (length bytes - wanted) old new out out' (take wanted bytes) (drop wanted bytes) some given (sym (length-drop wanted bytes)) (omega (arith, length-take wanted bytes))
      (drawn-front less ∙ front-discarded read wanted (control_gone control m) (shown control m) q over ∙ ap (λ ms. record { given = take wanted bytes; discarded = drop wanted bytes; dropped = []; left = ms }) (sym left))

  -- one that is taken whole
  whole : 0 < length bytes → length bytes ≤ wanted → new ≡ q → out' ≡ out ++ bytes → Stepped read control begun wanted (wanted_after read wanted (length bytes)) 0 old new out out'
  whole filled fits left given =
      let less = after-less read wanted (length bytes) fits in
      record {
        piece = bytes;
        gone = [];
        given = given;
        count = refl;
        rest = drawn-whole filled fits ∙ ap (λ ms. with_more bytes [] (drawn_on read control true (wanted_after read wanted (length bytes)) ms)) (sym left);
        most = omega (arith, less);
        less = omega (arith, less, filled);
        kept = λ more. refl;
      }

  -- a zero-length one that stands first
  emptied : length bytes ≡ 0 → new ≡ q → out' ≡ out ++ [] → Stepped read control begun wanted 0 0 old new out out'
  emptied none left given =
      ends read control begun wanted 0 old new out out' [] [] some given refl (omega arith) (drawn-empty none ∙ ap (λ ms. record { given = []; discarded = []; dropped = []; left = ms }) (sym left))

  -- a message that was taken away, whatever its size
  stepped-to : (more discarded more' discarded' : ℕ) → more' ≡ more → discarded' ≡ discarded → Stepped read control begun wanted more discarded old new out out' → Stepped read control begun wanted more' discarded' old new out out'
  stepped-to more discarded more' discarded' more_is discarded_is st =
      subst (λ n. Stepped read control begun wanted n discarded' old new out out') (sym more_is) (subst (λ n. Stepped read control begun wanted more n old new out out') (sym discarded_is) st)

  pub freed : (part more discarded : ℕ) → (wanted < length bytes → discards read ≡ true) → new ≡ q → part ≡ min wanted (length bytes) → out' ≡ out ++ take part bytes
      → more ≡ more_behind read wanted (length bytes) → discarded ≡ length bytes - wanted → Stepped read control begun wanted more discarded old new out out'
  freed part more discarded over left part_is given more_is discarded_is =
      elim (dec_le (length bytes) wanted) [
        | yes fits ↦ elim (dec_le 1 (length bytes)) [
          | yes filled ↦
              let on : (length bytes == 0 || nat_lt wanted (length bytes)) ≡ false = grind (arith, nat_tests) in
              stepped-to (wanted_after read wanted (length bytes)) 0 more discarded (more_is ∙ ap (λ b. cond b 0 (wanted_after read wanted (length bytes))) on) (omega arith)
              (whole (omega arith) fits left (given ∙ ap (λ xs. out ++ xs) (take_all part bytes (omega arith))))
          | no empty ↦
              let on : (length bytes == 0 || nat_lt wanted (length bytes)) ≡ true = grind (arith, nat_tests) in
              let none : length bytes ≡ 0 = omega arith in
              stepped-to 0 0 more discarded (more_is ∙ ap (λ b. cond b 0 (wanted_after read wanted (length bytes))) on) (omega arith)
              (emptied none left (given ∙ ap (λ xs. out ++ xs) (take_all part bytes (omega arith) ∙ nil_from_length bytes none)))
        ]
        | no more_there ↦
            let less : wanted < length bytes = omega arith in
            let on : (length bytes == 0 || nat_lt wanted (length bytes)) ≡ true = grind (arith, nat_tests) in
            stepped-to 0 (length bytes - wanted) more discarded (more_is ∙ ap (λ b. cond b 0 (wanted_after read wanted (length bytes))) on) discarded_is
            (rest-gone less (over less) left (given ∙ ap (λ n. out ++ take n bytes) (let e : part ≡ wanted = omega arith in e)))
      ]
