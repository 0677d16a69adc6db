-- What a read passes over on its way changes nothing of what it takes but what is dropped.
use Rattle.strm_head.proofs.Prelude.{ℕ, ◌≡◌, ◌<◌, Bool, true, false, cond, List, [], ◌∷◌, ◌++◌, length, drop, refl, sym, ap, ◌∙◌, arith, append_assoc}
use Rattle.strm_head.proofs.Prelude.{append-nil, not, ◌==◌, ◌&&◌, ◌||◌, nat_lt, nat_tests}
use Rattle.strm_head.specs.Prelude.{ReadMode, ByteStream, MessageKeep, MessageDiscard, ControlMode, Refuse, Data, Discard, Message, Drawn, drawn}
use Rattle.strm_head.specs.Prelude.{stopped, front_of, control_gone, shown, offered, is_passed, is_refused, no_cells, wanted_after}
use Rattle.strm_types.specs.Reads.{emptied_of, and_more, all_cells}
use Rattle.strm_head.specs.Drawing.{but_dropped, drawn_on, behind_passed, first_passed, first_goes, drops_control}

or-true : (b : Bool) → (b || true) ≡ true
or-true true = refl
or-true false = refl

-- what a read that is wanted takes of a message that it neither passes over nor fails at
abbrev pub taken_of : ReadMode → ControlMode → Bool → ℕ → List (Message ℕ) → Message ℕ → List (Message ℕ) → Drawn ℕ
taken_of read control begun n passed m q =
    cond (no_cells (offered control m)) (cond begun (stopped (passed ++ m ∷ q)) (emptied_of (all_cells passed ++ control_gone control m) q))
    (cond (nat_lt n (length (offered control m))) (front_of read n (all_cells passed ++ control_gone control m) (shown control m) q)
    (and_more (offered control m) (all_cells passed ++ control_gone control m) (drawn read control true (wanted_after read n (length (offered control m))) [] q)))

passed-goes-on : (control : ControlMode) (m : Message ℕ) → is_passed control m ≡ true → is_refused control m ≡ false
passed-goes-on Refuse m is = absurd (cc)
passed-goes-on Data m is = absurd (cc)
passed-goes-on Discard m is = refl

front-alike : (read : ReadMode) (n : ℕ) (gone gone' : List ℕ) (m : Message ℕ) (q : List (Message ℕ)) → but_dropped (front_of read n gone m q) ≡ but_dropped (front_of read n gone' m q)
front-alike ByteStream n gone gone' m q = refl
front-alike MessageKeep n gone gone' m q = refl
front-alike MessageDiscard n gone gone' m q = refl

-- two ways to the same end
both-ways : (empty begun short : Bool) (s s' e e' f f' w w' : Drawn ℕ) → (begun && empty) ≡ false → but_dropped e ≡ but_dropped e' → but_dropped f ≡ but_dropped f' → but_dropped w ≡ but_dropped w'
    → but_dropped (cond empty (cond begun s e) (cond short f w)) ≡ but_dropped (cond empty (cond begun s' e') (cond short f' w'))
both-ways true true short s s' e e' f f' w w' filled on_e on_f on_w = absurd (cc)
both-ways true false short s s' e e' f f' w w' filled on_e on_f on_w = on_e
both-ways false begun true s s' e e' f f' w w' filled on_e on_f on_w = on_f
both-ways false begun false s s' e e' f f' w w' filled on_e on_f on_w = on_w

-- what is known of a message that goes
pub not-passed : (a b c : Bool) → (not a && (not b && not c)) ≡ true → a ≡ false
not-passed true b c is = absurd (cc)
not-passed false b c is = refl

pub not-refused : (a b c : Bool) → (not a && (not b && not c)) ≡ true → b ≡ false
not-refused true b c is = absurd (cc)
not-refused false true c is = absurd (cc)
not-refused false false c is = refl

pub not-empty : (a b c : Bool) → (not a && (not b && not c)) ≡ true → c ≡ false
not-empty true b c is = absurd (cc)
not-empty false true c is = absurd (cc)
not-empty false false true is = absurd (cc)
not-empty false false false is = refl

module _ (read : ReadMode) (control : ControlMode) (begun : Bool) (n : ℕ) (some : 0 < n) where
  on : (n == 0) ≡ false
  on = grind (arith, nat_tests)

  drawn-passed : (passed : List (Message ℕ)) (m : Message ℕ) (q : List (Message ℕ)) → is_passed control m ≡ true → drawn read control begun n passed (m ∷ q) ≡ drawn read control begun n (passed ++ m ∷ []) q
  drawn-passed passed m q is = rw (on, passed-goes-on control m is, is) refl

  pub drawn-taken : (passed : List (Message ℕ)) (m : Message ℕ) (q : List (Message ℕ)) → is_passed control m ≡ false → is_refused control m ≡ false → drawn read control begun n passed (m ∷ q) ≡ taken_of read control begun n passed m q
  drawn-taken passed m q is goes_on = rw (on, goes_on, is) refl

  taken-alike : (passed passed' : List (Message ℕ)) (m : Message ℕ) (q : List (Message ℕ)) → (begun && no_cells (offered control m)) ≡ false → but_dropped (taken_of read control begun n passed m q) ≡ but_dropped (taken_of read control begun n passed' m q)
  taken-alike passed passed' m q filled =
      let cells = offered control m in
      let gone = all_cells passed ++ control_gone control m in
      let gone' = all_cells passed' ++ control_gone control m in
      let more = drawn read control true (wanted_after read n (length cells)) [] q in
      both-ways (no_cells cells) begun (nat_lt n (length cells)) (stopped (passed ++ m ∷ q)) (stopped (passed' ++ m ∷ q)) (emptied_of gone q) (emptied_of gone' q) (front_of read n gone (shown control m) q) (front_of read n gone' (shown control m) q) (and_more cells gone more) (and_more cells gone' more)
      filled refl (front-alike read n gone gone' (shown control m) q) refl

  -- what was passed over makes no difference, where a message is taken behind
  alike : (passed passed' q : List (Message ℕ)) → first_goes control begun (behind_passed control q) ≡ true → but_dropped (drawn read control begun n passed q) ≡ but_dropped (drawn read control begun n passed' q)
  alike passed passed' [] takes = absurd (cc)
  alike passed passed' (m ∷ q) takes = at (is_passed control m) refl (λ more. alike (passed ++ m ∷ []) (passed' ++ m ∷ []) q more) takes
    where
      at : (v : Bool) → is_passed control m ≡ v
          → (first_goes control begun (behind_passed control q) ≡ true → but_dropped (drawn read control begun n (passed ++ m ∷ []) q) ≡ but_dropped (drawn read control begun n (passed' ++ m ∷ []) q))
          → first_goes control begun (cond v (behind_passed control q) (m ∷ q)) ≡ true → but_dropped (drawn read control begun n passed (m ∷ q)) ≡ but_dropped (drawn read control begun n passed' (m ∷ q))
      at true is ih takes = ap but_dropped (drawn-passed passed m q is) ∙ ih takes ∙ ap but_dropped (sym (drawn-passed passed' m q is))
      at false is ih takes =
          let refused = not-refused (is_passed control m) (is_refused control m) (begun && no_cells (offered control m)) takes in
          ap but_dropped (drawn-taken passed m q is refused) ∙ taken-alike passed passed' m q (not-empty (is_passed control m) (is_refused control m) (begun && no_cells (offered control m)) takes)
          ∙ ap but_dropped (sym (drawn-taken passed' m q is refused))

  -- so a read takes of what stands behind what it takes of all
  pub drawn-behind : (q : List (Message ℕ)) → first_goes control begun (behind_passed control q) ≡ true → drawn_on read control begun n q ≡ drawn_on read control begun n (behind_passed control q)
  drawn-behind [] takes = refl
  drawn-behind (m ∷ q) takes = at (is_passed control m) refl (λ more. drawn-behind q more) takes
    where
      at : (v : Bool) → is_passed control m ≡ v → (first_goes control begun (behind_passed control q) ≡ true → drawn_on read control begun n q ≡ drawn_on read control begun n (behind_passed control q)) → first_goes control begun (cond v (behind_passed control q) (m ∷ q)) ≡ true → drawn_on read control begun n (m ∷ q) ≡ drawn_on read control begun n (cond v (behind_passed control q) (m ∷ q))
      at true is ih takes = ap but_dropped (drawn-passed [] m q is) ∙ alike (m ∷ []) [] q takes ∙ ih takes
      at false is ih takes = refl

  -- and where it takes none there, all stay
  stays-at : (m : Message ℕ) (passed q : List (Message ℕ)) (refused begun' empty : Bool) → is_passed control m ≡ false → is_refused control m ≡ refused → begun ≡ begun' → no_cells (offered control m) ≡ empty → (not (is_passed control m) && (not refused && not (begun' && empty))) ≡ false
      → drawn read control begun n passed (m ∷ q) ≡ stopped (passed ++ m ∷ q)
  stays-at m passed q true begun' empty none refused_is begun_is empty_is takes = rw (refused_is, or-true (n == 0)) refl
  stays-at m passed q false true true none refused_is begun_is empty_is takes = drawn-taken passed m q none refused_is ∙ rw (empty_is, begun_is) refl
  stays-at m passed q false true false none refused_is begun_is empty_is takes = absurd (cc)
  stays-at m passed q false false empty none refused_is begun_is empty_is takes = absurd (cc)

  drawn-stays : (passed q : List (Message ℕ)) → first_goes control begun (behind_passed control q) ≡ false → drawn read control begun n passed q ≡ stopped (passed ++ q)
  drawn-stays passed [] takes = ap stopped (sym (append-nil passed))
  drawn-stays passed (m ∷ q) takes = at (is_passed control m) refl (λ more. drawn-stays (passed ++ m ∷ []) q more) takes
    where
      at : (v : Bool) → is_passed control m ≡ v → (first_goes control begun (behind_passed control q) ≡ false → drawn read control begun n (passed ++ m ∷ []) q ≡ stopped ((passed ++ m ∷ []) ++ q)) → first_goes control begun (cond v (behind_passed control q) (m ∷ q)) ≡ false → drawn read control begun n passed (m ∷ q) ≡ stopped (passed ++ m ∷ q)
      at true is ih takes = drawn-passed passed m q is ∙ ih takes ∙ ap stopped (append_assoc passed (m ∷ []) q)
      at false is ih takes = stays-at m passed q (is_refused control m) begun (no_cells (offered control m)) is refl refl refl takes

  pub all-stay : (q : List (Message ℕ)) → first_goes control begun (behind_passed control q) ≡ false → drawn_on read control begun n q ≡ stopped q
  all-stay q takes = ap but_dropped (drawn-stays [] q takes)

-- one that is passed over is taken away
module _ (control : ControlMode) where
  pub passed-gone : (q : List (Message ℕ)) → first_passed control q ≡ true → behind_passed control (drop 1 q) ≡ behind_passed control q
  passed-gone [] is = absurd (cc)
  passed-gone (m ∷ q) is = sym (ap (λ b. cond b (behind_passed control q) (m ∷ q)) is)

  pub passed-less : (q : List (Message ℕ)) → first_passed control q ≡ true → length (drop 1 q) < length q
  passed-less [] is = absurd (cc)
  passed-less (m ∷ q) is = omega arith

  pub none-passed : (q : List (Message ℕ)) → first_passed control q ≡ false → q ≡ behind_passed control q
  none-passed [] is = refl
  none-passed (m ∷ q) is = sym (ap (λ b. cond b (behind_passed control q) (m ∷ q)) is)

-- but under RPROTDIS none is passed over
pub passes-none : (control : ControlMode) (q : List (Message ℕ)) → drops_control control ≡ false → q ≡ behind_passed control q
passes-none Refuse [] is = refl
passes-none Refuse (m ∷ q) is = refl
passes-none Data [] is = refl
passes-none Data (m ∷ q) is = refl
passes-none Discard q is = absurd (cc)

-- and nothing is dropped
drops-none : (stops empty begun short : Bool) (x y z w v : Drawn ℕ) → x.dropped ≡ [] → y.dropped ≡ [] → z.dropped ≡ [] → w.dropped ≡ [] → v.dropped ≡ []
    → (cond stops x (cond empty (cond begun y z) (cond short w v))).dropped ≡ []
drops-none true empty begun short x y z w v on_x on_y on_z on_w on_v = on_x
drops-none false true true short x y z w v on_x on_y on_z on_w on_v = on_y
drops-none false true false short x y z w v on_x on_y on_z on_w on_v = on_z
drops-none false false begun true x y z w v on_x on_y on_z on_w on_v = on_w
drops-none false false begun false x y z w v on_x on_y on_z on_w on_v = on_v

front-drops-none : (read : ReadMode) (n : ℕ) (m : Message ℕ) (q : List (Message ℕ)) → (front_of read n [] m q).dropped ≡ []
front-drops-none ByteStream n m q = refl
front-drops-none MessageKeep n m q = refl
front-drops-none MessageDiscard n m q = refl

pub none-dropped : (read : ReadMode) (control : ControlMode) (begun : Bool) (n : ℕ) (q : List (Message ℕ)) → drops_control control ≡ false → (drawn read control begun n [] q).dropped ≡ []
none-dropped read Refuse begun n [] is = refl
none-dropped read Refuse begun n (m ∷ q) is =
    let cells = offered Refuse m in
    let more = drawn read Refuse true (wanted_after read n (length cells)) [] q in
    drops-none (n == 0 || is_refused Refuse m) (no_cells cells) begun (nat_lt n (length cells)) (stopped (m ∷ q)) (stopped (m ∷ q)) (emptied_of [] q) (front_of read n [] (shown Refuse m) q) (and_more cells [] more)
    refl refl refl (front-drops-none read n (shown Refuse m) q) (none-dropped read Refuse true (wanted_after read n (length cells)) q is)
none-dropped read Data begun n [] is = refl
none-dropped read Data begun n (m ∷ q) is =
    let cells = offered Data m in
    let more = drawn read Data true (wanted_after read n (length cells)) [] q in
    drops-none (n == 0 || is_refused Data m) (no_cells cells) begun (nat_lt n (length cells)) (stopped (m ∷ q)) (stopped (m ∷ q)) (emptied_of [] q) (front_of read n [] (shown Data m) q) (and_more cells [] more)
    refl refl refl (front-drops-none read n (shown Data m) q) (none-dropped read Data true (wanted_after read n (length cells)) q is)
none-dropped read Discard begun n q is = absurd (cc)
