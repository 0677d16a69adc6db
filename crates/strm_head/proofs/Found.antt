-- Where a get finds the message that it asks for.
use Rattle.strm_head.proofs.Prelude.{◌&&◌, ℕ, ◌≡◌, ◌<◌, ◌+◌, Bool, true, false, cond, List, [], ◌∷◌, ◌++◌, length, refl, sym, ap, subst, ◌∙◌, arith}
use Rattle.strm_head.proofs.Prelude.{length-append}
use Rattle.strm_head.specs.Prelude.{Wanted, Dir, Fates, tallied, Goes, Got, is_wanted, got_none, parts_of, Message, part, left_with, relieved}
use Rattle.strm_head.specs.Prelude.{relieves, no_cells, told_more}
use Rattle.std.proofs.Common.{not}
use Rattle.strm_types.specs.declared.rules.Rule.TheVariants.{Read}
use Rattle.strm_types.specs.Gets.{head_get}
use Rattle.strm_types.specs.GetQueues.{gets_none, cells_got, none_got, queue_got, writer_let_go, get_queue, get_lets_go, get_told}
use Rattle.strm_types.specs.Queue.{Queue}
use Rattle.strm_head.specs.declared.getting.Gotten.{Gotten}
use Rattle.strm_head.specs.Getting.{Gives}

-- whether no cells are in two lists
none-cells : (xs ys : List ℕ) → length xs + length ys ≡ 0 → (no_cells xs && no_cells ys) ≡ true
none-cells [] [] is = refl
none-cells [] (y ∷ ys) is = absurd (omega (arith, is))
none-cells (x ∷ xs) ys is = absurd (omega (arith, is))

some-got : (xs ys : List ℕ) → 0 < length xs + length ys → (no_cells xs && no_cells ys) ≡ false
some-got [] [] is = absurd (omega (arith, is))
some-got [] (y ∷ ys) is = refl
some-got (x ∷ xs) ys is = refl

module _ (wanted : Wanted) (cmax dmax : ℕ) where
  pub record Found (q : List (Message ℕ)) : Type 0 where
    pub message : Message ℕ
    pub rest : List (Message ℕ)
    pub stood : q ≡ message ∷ rest
    pub some : gets_none wanted q ≡ false
    pub got : parts_of cmax dmax message rest ≡ head_get wanted cmax dmax q

  pub found : (q : List (Message ℕ)) → not (gets_none wanted q) ≡ true → Found q
  found [] is = absurd (cc)
  found (m ∷ q) is = at (is_wanted wanted m) refl is
    where
      at : (v : Bool) → is_wanted wanted m ≡ v → not (not v) ≡ true → Found (m ∷ q)
      at true so there = record { message = m; rest = q; stood = refl; some = ap not so; got = ap (λ v. cond v (parts_of cmax dmax m q) (got_none (m ∷ q))) (sym so) }
      at false so there = absurd (cc)

  -- what is told then
  pub told-found : (dir : Dir) (q : List (Message ℕ)) (fates : Fates) (count : ℕ) → gets_none wanted q ≡ false
      → count ≡ length (part (head_get wanted cmax dmax q).control) + length (part (head_get wanted cmax dmax q).body)
      → told_more dir Read count fates ≡ get_told dir wanted cmax dmax q fates
  told-found dir q fates count some is =
      let g = head_get wanted cmax dmax q in
      ap (λ n. told_more dir Read n fates) (is ∙ sym (length-append (part g.control) (part g.body)))
      ∙ ap (λ v. cond v fates (told_more dir Read (length (cells_got g)) fates)) (sym some)
      ∙ at (gets_none wanted q) g
    where
      at : (v : Bool) (g : Got ℕ) → cond v fates (told_more dir Read (length (cells_got g)) fates) ≡ tallied (cond v [] (Goes dir Read (cells_got g) ∷ [])) fates
      at true g = refl
      at false g = refl

  -- and the queue behind it: its waiting writers are let go where bytes went
  module _ (q : Queue ℕ) (g : Got ℕ) (is : g ≡ head_get wanted cmax dmax q.messages) (some : gets_none wanted q.messages ≡ false) where
    abbrev got : Got ℕ
    got = head_get wanted cmax dmax q.messages

    queue-is : (v : Bool) → none_got g ≡ v → cond v (left_with g.left q) (relieved (left_with g.left q)) ≡ get_queue wanted cmax dmax q
    queue-is v none =
        ap (λ (x : Got ℕ). cond v (left_with x.left q) (relieved (left_with x.left q))) is
        ∙ sym (ap (λ u. cond u q (queue_got got q)) some ∙ ap (λ u. cond u (left_with got.left q) (relieved (left_with got.left q))) (ap none_got (sym is) ∙ none))

    went-is : (v : Bool) → none_got g ≡ v → cond v false (relieves (left_with g.left q)) ≡ get_lets_go wanted cmax dmax q
    went-is v none =
        ap (λ (x : Got ℕ). cond v false (relieves (left_with x.left q))) is
        ∙ sym (ap (λ u. cond u false (writer_let_go got q)) some ∙ ap (λ u. cond u false (relieves (left_with got.left q))) (ap none_got (sym is) ∙ none))

    module _ (count : ℕ) (count_is : count ≡ length (part g.control) + length (part g.body)) where
      pub queue-goes : 0 < count → relieved (left_with g.left q) ≡ get_queue wanted cmax dmax q
      queue-goes went = queue-is false (some-got (part g.control) (part g.body) (omega (arith, count_is, went)))

      pub queue-waits : count ≡ 0 → left_with g.left q ≡ get_queue wanted cmax dmax q
      queue-waits none = queue-is true (none-cells (part g.control) (part g.body) (omega (arith, count_is, none)))

      pub went-goes : 0 < count → relieves (left_with g.left q) ≡ get_lets_go wanted cmax dmax q
      went-goes went = went-is false (some-got (part g.control) (part g.body) (omega (arith, count_is, went)))

      pub went-waits : count ≡ 0 → false ≡ get_lets_go wanted cmax dmax q
      went-waits none = went-is true (none-cells (part g.control) (part g.body) (omega (arith, count_is, none)))

-- what was taken is what the get gives, whether a writer is let go or not
pub gives-found : (first result : Gotten) (out : List ℕ) (g h : Got ℕ) → result.control ≡ first.control → result.body ≡ first.body → result.prio ≡ first.prio
    → result.more_control ≡ first.more_control → result.more_data ≡ first.more_data → g ≡ h → Gives first out g → Gives result out h
gives-found first result out g h control_same body_same prio_same more_control_same more_data_same is gives =
    subst (Gives result out) is (record {
      given = gives.given;
      control_there = control_same ∙ gives.control_there;
      body_there = body_same ∙ gives.body_there;
      prio = prio_same ∙ gives.prio;
      more_control = more_control_same ∙ gives.more_control;
      more_data = more_data_same ∙ gives.more_data;
    })

pub count-found : (first : Gotten) (out : List ℕ) (g h : Got ℕ) {n : ℕ} → n ≡ length out → g ≡ h → Gives first out g
    → n ≡ length (part h.control) + length (part h.body)
count-found first out g h n_is is gives =
    omega (arith, n_is, ap length (gives.given ∙ ap (λ (x : Got ℕ). part x.control ++ part x.body) is), length-append (part h.control) (part h.body))
