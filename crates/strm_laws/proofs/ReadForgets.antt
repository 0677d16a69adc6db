-- Forgetting the origins of cells commutes with reads and gets.
use Rattle.strm_laws.proofs.Prelude.{ℕ, ◌≡◌, ◌-◌, Bool, true, false, cond, List, [], ◌∷◌, ◌++◌, length, map, take, drop, refl, sym, ap, ◌∙◌, ◌==◌}
use Rattle.strm_laws.proofs.Prelude.{◌||◌, ◌&&◌, nat_lt, Option, None, Some, option_map, take-map, drop-map, length-map, map-append}
use Rattle.strm_laws.specs.Prelude.{ReadMode, ByteStream, MessageKeep, MessageDiscard, ControlMode, Refuse, Discard, Dir, Message, part, cells_of}
use Rattle.strm_laws.specs.Prelude.{band_of, map_message, map_fate, Queue, put_back, left_with, relieved, map_messages, map_queue, Drawn, no_cells}
use Rattle.strm_laws.specs.Prelude.{stopped, emptied_of, front_of, and_more, drawn, head_draw, shown, offered, control_gone, all_cells, rest_with}
use Rattle.strm_laws.specs.Prelude.{rest_after, is_refused, is_passed, wanted_after, read_refusal, takes_none, none_went, queue_drawn, read_fates}
use Rattle.strm_laws.specs.Prelude.{read_gone, read_queue, read_lets_go}
use Rattle.strm_types.specs.declared.modes.ControlMode.TheVariants.{Data}
use Rattle.strm_types.specs.Reads.{is_there, part_left, finds_none, starts_refused, writer_goes, map_drawn}
use Rattle.strm_laws.proofs.Forgetting.{cells-forget, put_back-forgets, relieved-forgets, relieves_from-forgets}
use Rattle.strm_types.proofs.Drawing.{ended, ended-agrees}

module _ {C D : Type 0} (f : C → D) where
  part-forgets : (o : Option (List C)) → part (option_map (map f) o) ≡ map f (part o)
  part-forgets None = refl
  part-forgets (Some cells) = refl

  there-forgets : (o : Option (List C)) → is_there (option_map (map f) o) ≡ is_there o
  there-forgets None = refl
  there-forgets (Some cells) = refl

  no-cells-forget : (cells : List C) → no_cells (map f cells) ≡ no_cells cells
  no-cells-forget [] = refl
  no-cells-forget (c ∷ cells) = refl

  left-forgets : (cells : List C) → option_map (map f) (part_left cells) ≡ part_left (map f cells)
  left-forgets [] = refl
  left-forgets (c ∷ cells) = refl

  pub control-forgets : (m : Message C) → part (map_message f m).control ≡ map f (part m.control)
  unfolding map_message
  control-forgets m = part-forgets m.control

  pub body-forgets : (m : Message C) → part (map_message f m).body ≡ map f (part m.body)
  unfolding map_message
  body-forgets m = part-forgets m.body

  refused-forgets : (control : ControlMode) (m : Message C) → is_refused control (map_message f m) ≡ is_refused control m
  unfolding map_message
  refused-forgets Refuse m = there-forgets m.control
  refused-forgets Data m = refl
  refused-forgets Discard m = refl

  passed-forgets : (control : ControlMode) (m : Message C) → is_passed control (map_message f m) ≡ is_passed control m
  unfolding map_message
  passed-forgets Refuse m = refl
  passed-forgets Data m = refl
  passed-forgets Discard m = ap (λ b. cond b false true) (there-forgets m.body)

  shown-forgets : (control : ControlMode) (m : Message C) → map_message f (shown control m) ≡ shown control (map_message f m)
  unfolding map_message band_of
  shown-forgets Refuse m = refl
  shown-forgets Data m = refl
  shown-forgets Discard m = refl

  offered-forgets : (control : ControlMode) (m : Message C) → offered control (map_message f m) ≡ map f (offered control m)
  offered-forgets control m = ap cells_of (sym (shown-forgets control m)) ∙ cells-forget f (shown control m)

  gone-forgets : (control : ControlMode) (m : Message C) → control_gone control (map_message f m) ≡ map f (control_gone control m)
  gone-forgets Refuse m = refl
  gone-forgets Data m = refl
  gone-forgets Discard m = control-forgets m

  all-forget : (q : List (Message C)) → all_cells (map_messages f q) ≡ map f (all_cells q)
  all-forget [] = refl
  all-forget (m ∷ q) =
      rw (cells-forget f m, all-forget q) (sym (map-append f (cells_of m) (all_cells q)))

  pub rest_with-forgets : (control body : List C) (m : Message C) → map_message f (rest_with control body m) ≡ rest_with (map f control) (map f body) (map_message f m)
  unfolding map_message band_of
  rest_with-forgets [] body m = refl
  rest_with-forgets (c ∷ control) body m =
      ap (λ o. record { kind = m.kind; band = m.band; control = Some (f c ∷ map f control); body = o; plain = m.plain }) (left-forgets body)

  pub dropped-forget : (n : ℕ) (xs : List C) (ys : List D) → ys ≡ map f xs → map f (drop n xs) ≡ drop n ys
  dropped-forget n xs ys is = sym (drop-map f n xs) ∙ ap (λ zs. drop n zs) (sym is)

  rest_after-forgets : (n : ℕ) (m : Message C) → map_message f (rest_after n m) ≡ rest_after n (map_message f m)
  rest_after-forgets n m =
      let lengths : length (part m.control) ≡ length (part (map_message f m).control) = sym (length-map (part m.control) f) ∙ ap length (sym (control-forgets m)) in
      rest_with-forgets (drop n (part m.control)) (drop (n - length (part m.control)) (part m.body)) m
      ∙ ap (λ xs. rest_with xs (map f (drop (n - length (part m.control)) (part m.body))) (map_message f m)) (dropped-forget n (part m.control) (part (map_message f m).control) (control-forgets m))
      ∙ ap (λ xs. rest_with (drop n (part (map_message f m).control)) xs (map_message f m)) (dropped-forget (n - length (part m.control)) (part m.body) (part (map_message f m).body) (body-forgets m))
      ∙ ap (λ k. rest_with (drop n (part (map_message f m).control)) (drop (n - k) (part (map_message f m).body)) (map_message f m)) lengths

  given-forgets : (n : ℕ) (m : Message C) → map f (take n (cells_of m)) ≡ take n (cells_of (map_message f m))
  given-forgets n m = sym (take-map f n (cells_of m)) ∙ ap (λ xs. take n xs) (sym (cells-forget f m))

  put-rest-forgets : (n : ℕ) (m : Message C) (q : List (Message C)) → map_messages f (put_back (rest_after n m) q) ≡ put_back (rest_after n (map_message f m)) (map_messages f q)
  put-rest-forgets n m q = put_back-forgets f (rest_after n m) q ∙ ap (λ r. put_back r (map_messages f q)) (rest_after-forgets n m)

  front-forgets : (read : ReadMode) (n : ℕ) (dropped : List C) (m : Message C) (q : List (Message C)) → map_drawn f (front_of read n dropped m q) ≡ front_of read n (map f dropped) (map_message f m) (map_messages f q)
  front-forgets ByteStream n dropped m q =
      rw (given-forgets n m, put-rest-forgets n m q) refl
  front-forgets MessageKeep n dropped m q =
      rw (given-forgets n m, put-rest-forgets n m q) refl
  front-forgets MessageDiscard n dropped m q =
      rw (given-forgets n m, dropped-forget n (cells_of m) (cells_of (map_message f m)) (cells-forget f m)) refl

  more-forgets : (cells dropped : List C) (more : Drawn C) → map_drawn f (and_more cells dropped more) ≡ and_more (map f cells) (map f dropped) (map_drawn f more)
  more-forgets cells dropped more =
      rw (map-append f cells more.given, map-append f dropped more.dropped) refl

  -- a step of a read by what it is told of its message
  abbrev step_of : ReadMode → ControlMode → Bool → ℕ → List (Message D) → Message D → List (Message D) → Bool → Bool → List D → Message D → List D → Drawn D
  step_of read control begun n passed m q refused pass cells shows gone =
      ended (n == 0 || refused) pass (no_cells cells) begun (nat_lt n (length cells)) (stopped (passed ++ m ∷ q))
      (drawn read control begun n (passed ++ m ∷ []) q) (emptied_of (all_cells passed ++ gone) q) (front_of read n (all_cells passed ++ gone) shows q)
      (and_more cells (all_cells passed ++ gone) (drawn read control true (wanted_after read n (length cells)) [] q))

  drawn-forgets : (read : ReadMode) (control : ControlMode) (begun : Bool) (n : ℕ) (passed q : List (Message C)) → map_drawn f (drawn read control begun n passed q) ≡ drawn read control begun n (map_messages f passed) (map_messages f q)
  drawn-forgets read control begun n passed [] = refl
  drawn-forgets read control begun n passed (m ∷ q) =
      let m' = map_message f m in
      let q' = map_messages f q in
      let passed' = map_messages f passed in
      let cells = offered control m in
      let gone = all_cells passed ++ control_gone control m in
      let more = drawn read control true (wanted_after read n (length cells)) [] q in
      let gone' = all_cells passed' ++ map f (control_gone control m) in
      let size : length (map f cells) ≡ length cells = length-map cells f in
      let goes : map f gone ≡ gone' = map-append f (all_cells passed) (control_gone control m) ∙ ap (λ xs. xs ++ map f (control_gone control m)) (sym (all-forget passed)) in
      let rest : map_drawn f more ≡ drawn read control true (wanted_after read n (length (map f cells))) [] q' = drawn-forgets read control true (wanted_after read n (length cells)) [] q ∙ ap (λ k. drawn read control true (wanted_after read n k) [] q') (sym size) in
      ended-agrees (map_drawn f) (n == 0 || is_refused control m) (is_passed control m) (no_cells cells) begun (nat_lt n (length cells))
      (stopped (passed ++ m ∷ q)) (drawn read control begun n (passed ++ m ∷ []) q) (emptied_of gone q) (front_of read n gone (shown control m) q) (and_more cells gone more)
      (stopped (passed' ++ m' ∷ q')) (drawn read control begun n (passed' ++ m' ∷ []) q') (emptied_of gone' q') (front_of read n gone' (map_message f (shown control m)) q')
      (and_more (map f cells) gone' (drawn read control true (wanted_after read n (length (map f cells))) [] q'))
      (ap stopped (map-append (map_message f) passed (m ∷ q)))
      (drawn-forgets read control begun n (passed ++ m ∷ []) q ∙ ap (λ ms. drawn read control begun n ms q') (map-append (map_message f) passed (m ∷ [])))
      (ap (λ xs. emptied_of xs q') goes)
      (front-forgets read n gone (shown control m) q ∙ ap (λ xs. front_of read n xs (map_message f (shown control m)) q') goes)
      (more-forgets cells gone more ∙ ap (λ xs. and_more (map f cells) xs (map_drawn f more)) goes ∙ ap (λ t. and_more (map f cells) gone' t) rest)
      ∙ ap (λ b. ended (n == 0 || is_refused control m) (is_passed control m) b begun (nat_lt n (length cells)) (stopped (passed' ++ m' ∷ q')) (drawn read control begun n (passed' ++ m' ∷ []) q') (emptied_of gone' q') (front_of read n gone' (map_message f (shown control m)) q') (and_more (map f cells) gone' (drawn read control true (wanted_after read n (length (map f cells))) [] q'))) (sym (no-cells-forget cells))
      ∙ ap (λ k. ended (n == 0 || is_refused control m) (is_passed control m) (no_cells (map f cells)) begun (nat_lt n k) (stopped (passed' ++ m' ∷ q')) (drawn read control begun n (passed' ++ m' ∷ []) q') (emptied_of gone' q') (front_of read n gone' (map_message f (shown control m)) q') (and_more (map f cells) gone' (drawn read control true (wanted_after read n (length (map f cells))) [] q'))) (sym size)
      ∙ ap (λ b. step_of read control begun n passed' m' q' b (is_passed control m) (map f cells) (map_message f (shown control m)) (map f (control_gone control m))) (sym (refused-forgets control m))
      ∙ ap (λ b. step_of read control begun n passed' m' q' (is_refused control m') b (map f cells) (map_message f (shown control m)) (map f (control_gone control m))) (sym (passed-forgets control m))
      ∙ ap (λ xs. step_of read control begun n passed' m' q' (is_refused control m') (is_passed control m') xs (map_message f (shown control m)) (map f (control_gone control m))) (sym (offered-forgets control m))
      ∙ ap (λ x. step_of read control begun n passed' m' q' (is_refused control m') (is_passed control m') (offered control m') x (map f (control_gone control m))) (shown-forgets control m)
      ∙ ap (λ xs. step_of read control begun n passed' m' q' (is_refused control m') (is_passed control m') (offered control m') (shown control m') xs) (sym (gone-forgets control m))

  pub head_draw-forgets : (read : ReadMode) (control : ControlMode) (n : ℕ) (q : List (Message C)) → map_drawn f (head_draw read control n q) ≡ head_draw read control n (map_messages f q)
  head_draw-forgets read control n q = drawn-forgets read control false n [] q

  none-forgets : (control : ControlMode) (q : List (Message C)) → finds_none control (map_messages f q) ≡ finds_none control q
  none-forgets control [] = refl
  none-forgets control (m ∷ q) = ap (λ b. b && finds_none control (map_messages f q)) (passed-forgets control m) ∙ ap (λ b. is_passed control m && b) (none-forgets control q)

  starts-forgets : (control : ControlMode) (q : List (Message C)) → starts_refused control (map_messages f q) ≡ starts_refused control q
  starts-forgets control [] = refl
  starts-forgets control (m ∷ q) = refused-forgets control m

  pub refusal-forgets : (control : ControlMode) (at_end : Bool) (n : ℕ) (q : List (Message C)) → read_refusal control at_end n (map_messages f q) ≡ read_refusal control at_end n q
  refusal-forgets control at_end n q =
      rw (none-forgets control q, starts-forgets control q) refl

  -- the queue behind a read, and who is let go
  takes-forgets : (control : ControlMode) (n : ℕ) (q : List (Message C)) → takes_none control n (map_messages f q) ≡ takes_none control n q
  takes-forgets control n q =
      rw (none-forgets control q, starts-forgets control q) refl

  went-forgets : (d : Drawn C) → none_went (map_drawn f d) ≡ none_went d
  went-forgets d =
      rw (no-cells-forget d.given, no-cells-forget d.discarded, no-cells-forget d.dropped) refl

  queue_drawn-forgets : (d : Drawn C) (q : Queue C) → queue_drawn (map_drawn f d) (map_queue f q) ≡ map_queue f (queue_drawn d q)
  queue_drawn-forgets d q = ap (λ none. cond none (left_with (map_messages f d.left) (map_queue f q)) (relieved (left_with (map_messages f d.left) (map_queue f q)))) (went-forgets d) ∙ at (none_went d)
    where
      at : (none : Bool) → cond none (left_with (map_messages f d.left) (map_queue f q)) (relieved (left_with (map_messages f d.left) (map_queue f q))) ≡ map_queue f (cond none (left_with d.left q) (relieved (left_with d.left q)))
      at true = refl
      at false = sym (relieved-forgets f (left_with d.left q))

  pub read_queue-forgets : (read : ReadMode) (control : ControlMode) (n : ℕ) (q : Queue C) → read_queue read control n (map_queue f q) ≡ map_queue f (read_queue read control n q)
  read_queue-forgets read control n q =
      rw (← head_draw-forgets read control n q.messages, takes-forgets control n q.messages, queue_drawn-forgets (head_draw read control n q.messages) q) (at (takes_none control n q.messages))
    where
      at : (none : Bool) → cond none (map_queue f q) (map_queue f (queue_drawn (head_draw read control n q.messages) q)) ≡ map_queue f (cond none q (queue_drawn (head_draw read control n q.messages) q))
      at true = refl
      at false = refl

  -- what goes by its rules
  pub read_gone-forgets : (dir : Dir) (read : ReadMode) (control : ControlMode) (n : ℕ) (q : List (Message C)) → read_gone dir read control n (map_messages f q) ≡ map (map_fate f) (read_gone dir read control n q)
  read_gone-forgets dir read control n q =
      rw (← head_draw-forgets read control n q, takes-forgets control n q) (at (takes_none control n q))
    where
      at : (none : Bool) → cond none [] (read_fates dir (map_drawn f (head_draw read control n q))) ≡ map (map_fate f) (cond none [] (read_fates dir (head_draw read control n q)))
      at true = refl
      at false = refl

  writer_goes-forgets : (d : Drawn C) (q : Queue C) → writer_goes (map_drawn f d) (map_queue f q) ≡ writer_goes d q
  writer_goes-forgets d q =
      rw (went-forgets d, relieves_from-forgets f 0 d.left q.flows) refl

  pub read_lets_go-forgets : (read : ReadMode) (control : ControlMode) (n : ℕ) (q : Queue C) → read_lets_go read control n (map_queue f q) ≡ read_lets_go read control n q
  read_lets_go-forgets read control n q =
      rw (← head_draw-forgets read control n q.messages, takes-forgets control n q.messages, writer_goes-forgets (head_draw read control n q.messages) q) refl
