-- The first message gives its bytes, and is freed or put back with what it has left.
use Rattle.strm_head.proofs.Prelude.{◌-◌, ◌≡◌, ◌∙◌, ◌++◌, ◌<◌, true, false, map, length, take, min, refl, sym, ap, subst, arith, has-list, before}
use Rattle.strm_head.proofs.Prelude.{behind, off, first-chain, first-holds}
use Rattle.strm_head.specs.Prelude.{is_data_kind, offered, placed, dropped, put_back, in_hand, list_at, block_at, token, bytes_of, control_bytes}
use Rattle.strm_head.specs.Prelude.{message_of, AreMessages, IsChain, messages_on, HoldsReadable}
use Rattle.std.specs.Bool.{OnTrue, OnFalse}
use Rattle.strm_types.specs.Queue as plain
use Rattle.strm_queue.proofs.Gotten.{freed-keeps}
use Rattle.strm_head.specs.Drawing.{discards, first_goes, more_behind}
use Rattle.strm_head.specs.Parted.{cut_by, shown_chain, rest_chain}
use Rattle.strm_head.proofs.Draws.{kept, freed}
use Rattle.strm_head.proofs.Left.{step-part, step-taken, taken-first}
use Rattle.strm_head.proofs.Rests.{alike, rest-read}
use Rattle.strm_head.proofs.Returned.{changed-once, held-is, freed-held, beside-held, put-rest, part-taken, held-messages, held-keeps, flags-taken}
use Rattle.strm_head.proofs.Showing.{shows}
use Rattle.strm_head.proofs.reading.take_first.Goals as goal

pub leave_rest-rest-requires-clause-chain : goal.leave_rest-rest-requires-clause-chain
leave_rest-rest-requires-clause-chain g c =
    let s = g.B.Blocks.value c.args.store.now in
    let got = g.B.Blocks.value c.getq.new.store in
    let t = g.B.Blocks.value c.show.new.store in
    let i = token c.in-Some.message in
    let q = c.args.queue.now in
    let ready = c.requires.ready in
    let p = c.in-Some.ensures.taken in
    let within = has-list s q c.audit.ensures in
    let one = first-chain p.message p.rest (subst AreMessages p.joined ready.ready.messages) in
    let readable = first-holds is_data_kind p.message p.rest (subst HoldsReadable p.joined ready.readable) in
    let v = shows p.message one readable c.args.control in
    let chain = shown_chain c.args.control p.message in
    let t_is = changed-once s got q.list i within p (shown_chain c.args.control) t c.show.ensures in
    let here = held-is s got q.list i within p chain t t_is in
    subst IsChain (sym here) v.one

pub leave_rest-rest-requires-clause-data : goal.leave_rest-rest-requires-clause-data
leave_rest-rest-requires-clause-data g c =
    let s = g.B.Blocks.value c.args.store.now in
    let got = g.B.Blocks.value c.getq.new.store in
    let t = g.B.Blocks.value c.show.new.store in
    let i = token c.in-Some.message in
    let q = c.args.queue.now in
    let ready = c.requires.ready in
    let p = c.in-Some.ensures.taken in
    let within = has-list s q c.audit.ensures in
    let one = first-chain p.message p.rest (subst AreMessages p.joined ready.ready.messages) in
    let readable = first-holds is_data_kind p.message p.rest (subst HoldsReadable p.joined ready.readable) in
    let v = shows p.message one readable c.args.control in
    let chain = shown_chain c.args.control p.message in
    let t_is = changed-once s got q.list i within p (shown_chain c.args.control) t c.show.ensures in
    let here = held-is s got q.list i within p chain t t_is in
    ap (λ chain. is_data_kind (block_at 0 chain).kind) here ∙ ap is_data_kind v.kind ∙ readable

-- it is put back with what it has left
pub returns-then-keeps_rest : goal.returns-then-keeps_rest
returns-then-keeps_rest g c =
    let s = g.B.Blocks.value c.args.store.now in
    let got = g.B.Blocks.value c.getq.new.store in
    let t = g.B.Blocks.value c.show.new.store in
    let i = token c.in-Some.message in
    let q = c.args.queue.now in
    let ready = c.requires.ready in
    let p = c.in-Some.ensures.taken in
    let within = has-list s q c.audit.ensures in
    let one = first-chain p.message p.rest (subst AreMessages p.joined ready.ready.messages) in
    let readable = first-holds is_data_kind p.message p.rest (subst HoldsReadable p.joined ready.readable) in
    let v = shows p.message one readable c.args.control in
    let chain = shown_chain c.args.control p.message in
    let t_is = changed-once s got q.list i within p (shown_chain c.args.control) t c.show.ensures in
    let here = held-is s got q.list i within p chain t t_is in
    let m = message_of p.message in
    let rest = map message_of p.rest in
    let bytes_is = ap bytes_of here ∙ v.bytes in
    let stood = before s got q.list i within p in
    let why = subst (λ b. OnTrue b ((c.args.wanted < c.message_size-len.result) × (discards c.args.read ≡ false))) c.if-keeps_rest.true c.keeps_rest.ensures.keeps in
    let less : c.args.wanted < length (bytes_of chain) = omega (arith, why.0, c.message_size-len.ensures.bytes, ap (λ xs. length (bytes_of xs)) here) in
    let r = rest-read c.args.wanted chain v.one less (ap is_data_kind v.kind ∙ readable) in
    let part_is : c.min-part.result ≡ c.args.wanted = omega (arith, c.min-part.ensures, why.0) in
    let u = g.B.Blocks.value c.leave_rest-rest.new.store in
    let j = token c.leave_rest-rest.result in
    let new = g.B.Blocks.value c.putbq.new.store in
    let b = beside-held s got q.list i within p chain t t_is (rest_chain c.args.wanted) u j c.leave_rest-rest.ensures in
    let landed = put-rest s got q.list i within p (rest_chain c.args.wanted chain) u new j b (c.putbq.ensures.placed ∙ ap (λ l. placed (dropped u j) l (put_back (in_hand u j) (list_at u l))) c.getq.ensures.list) in
    let d = c.args.wanted - length (control_bytes chain) in
    record {
      took = λ begun takes.
          kept c.args.read c.args.control begun c.args.wanted m rest (messages_on s q.list) (messages_on new q.list) c.args.out.now.items c.copy_into.new.out.items c.requires.some stood
          (sym (ap (first_goes c.args.control begun) stood) ∙ takes) (omega (arith, less, ap length v.bytes)) why.1
          (held-messages s got q.list i within p (rest_chain c.args.wanted chain) new landed ∙ ap (λ x. plain.put_back x rest) (r.is ∙ v.rest c.args.wanted))
          (c.copy_into.ensures ∙ ap (λ xs. c.args.out.now.items ++ take c.min-part.result xs) bytes_is ∙ ap (λ n. c.args.out.now.items ++ take n (offered c.args.control m)) part_is);
      leaves =
          step-part 0 (list_at s q.list) (list_at new q.list) refl
          (part-taken s got q.list i within p (rest_chain c.args.wanted chain) (cut_by c.args.wanted d chain) new (alike c.args.wanted d chain v.one (ap is_data_kind v.kind ∙ readable) ∙ v.blocks) refl landed);
      flags = flags-taken q c.putbq.new.self (c.putbq.ensures.flows ∙ c.in-Some.ensures.flows) (c.putbq.ensures.others.want_read ∙ c.in-Some.ensures.want_read) (c.putbq.ensures.others.no_enable ∙ c.in-Some.ensures.no_enable);
      keeps =
          held-keeps s got new q c.putbq.new.self i within p (rest_chain c.args.wanted chain) ready.ready r.one (λ test passes same. r.kind test passes (ap test v.kind ∙ same)) landed
          (c.putbq.ensures.others.list ∙ c.getq.ensures.list) c.putbq.ensures.counted;
    }

-- or it is freed
pub returns : goal.returns
returns g c =
    let s = g.B.Blocks.value c.args.store.now in
    let got = g.B.Blocks.value c.getq.new.store in
    let t = g.B.Blocks.value c.show.new.store in
    let i = token c.in-Some.message in
    let q = c.args.queue.now in
    let ready = c.requires.ready in
    let p = c.in-Some.ensures.taken in
    let within = has-list s q c.audit.ensures in
    let one = first-chain p.message p.rest (subst AreMessages p.joined ready.ready.messages) in
    let readable = first-holds is_data_kind p.message p.rest (subst HoldsReadable p.joined ready.readable) in
    let v = shows p.message one readable c.args.control in
    let chain = shown_chain c.args.control p.message in
    let t_is = changed-once s got q.list i within p (shown_chain c.args.control) t c.show.ensures in
    let here = held-is s got q.list i within p chain t t_is in
    let m = message_of p.message in
    let rest = map message_of p.rest in
    let bytes_is = ap bytes_of here ∙ v.bytes in
    let stood = before s got q.list i within p in
    let new = g.B.Blocks.value c.free.new.self in
    let len_is : c.message_size-len.result ≡ length (offered c.args.control m) = c.message_size-len.ensures.bytes ∙ ap length bytes_is in
    let over : c.args.wanted < length (offered c.args.control m) → discards c.args.read ≡ true =
    λ less. subst (λ b. OnFalse b (c.args.wanted < c.message_size-len.result → discards c.args.read ≡ true)) c.if-keeps_rest.false c.keeps_rest.ensures.goes (omega (arith, less, len_is)) in
    let is = freed-held s got q.list i within p chain t t_is new c.free.ensures in
    record {
      took = λ begun takes.
          freed c.args.read c.args.control begun c.args.wanted m rest (messages_on s q.list) (messages_on new q.list) c.args.out.now.items c.copy_into.new.out.items c.requires.some stood
          (sym (ap (first_goes c.args.control begun) stood) ∙ takes) c.min-part.result c.step_behind.result.more c.step_behind.result.discarded over (ap (λ w. messages_on w q.list) is ∙ behind s got q.list i within p)
          (c.min-part.ensures ∙ ap (λ n. min c.args.wanted n) len_is) (c.copy_into.ensures ∙ ap (λ xs. c.args.out.now.items ++ take c.min-part.result xs) bytes_is)
          (c.step_behind.ensures.more ∙ ap (λ n. more_behind c.args.read c.args.wanted n) len_is) (c.step_behind.ensures.discarded ∙ ap (λ n. n - c.args.wanted) len_is);
      leaves =
          step-taken c.step_behind.result.more (list_at s q.list) (list_at new q.list)
          (taken-first (list_at s q.list) (list_at new q.list) p.message p.rest p.joined (ap (λ w. list_at w q.list) is ∙ (off s got q.list i within p).here));
      flags = flags-taken q c.getq.new.self c.in-Some.ensures.flows c.in-Some.ensures.want_read c.in-Some.ensures.no_enable;
      keeps = freed-keeps s got new q c.getq.new.self i within p ready.ready is c.in-Some.ensures.list c.in-Some.ensures.counted;
    }
