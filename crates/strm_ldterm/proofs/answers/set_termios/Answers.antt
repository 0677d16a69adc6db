-- The line goes up, or there is none to go.
use Rattle.strm_ldterm.proofs.Prelude.{ℕ, ◌≡◌, List, [], ◌∷◌, ◌++◌, refl, sym, ap, subst, ◌∙◌, append-nil}
use Rattle.strm_ldterm.specs.Prelude.{Up, toward, onward, sends, data_message, Sent, token}
use Rattle.strm_ldterm.specs.Sending.{MadeOne}
use Rattle.strm_ldterm.specs.Stands.{ldterm_in, paired}
use Rattle.strm_ldterm.proofs.Sends.{sends-made}
use Rattle.strm_ldterm.proofs.TakingUp.{held-set, line-none, line-sent, termios-none}
use Rattle.strm_ldterm.proofs.answers.set_termios.Goals as goal
use Rattle.strm_ldterm.proofs.answers.set_termios.Goals.{then-not-ends-via-then-not-ends, then-not-ends-via-else-not-ends+then-len-eq0}

pub returns-then-not-ends : goal.returns-then-not-ends
returns-then-not-ends g c = λ q f held kept.
    let s = g.B.Blocks.value c.args.store.now in
    let x = (paired c.args.ldterm.now q) in
    elim c.then-not-ends.branch [
      | then-not-ends-via-then-not-ends w ↦ termios-none s x c.args.here c.args.termios f held (sym c.ends_lines-ends.ensures ∙ w.if-not-ends.true)
      | then-not-ends-via-else-not-ends+then-len-eq0 w ↦ line-none s x c.args.here c.args.termios f held (sym w.len.ensures.value ∙ w.if-len-eq0.true)
    ]

pub returns : goal.returns
returns g c = λ q f held kept.
    let s = g.B.Blocks.value c.args.store.now in
    let t = g.B.Blocks.value c.make_line-message.new.store in
    let x = (paired c.args.ldterm.now q) in
    let p = ldterm_in s x in
    let y = record x { termios = c.args.termios; line = c.clear.new.self } in
    let z : Sent = record { to = c.toward.result; message = c.make_line-message.result } in
    let line : c.bytes.result.now ++ [] ≡ x.line = append-nil c.bytes.result.now ∙ c.bytes.ensures.value in
    let made : MadeOne s t (token z.message) (data_message x.line) = subst (λ (l : List ℕ). MadeOne s t (token z.message) (data_message l)) line c.make_line-message.ensures in
    line-sent s t x y z c.args.here c.args.termios f (sym c.ends_lines-ends.ensures ∙ c.if-not-ends.false) (λ none. c.if-len-eq0.false (c.len.ensures.value ∙ none))
    (sends-made s t x y z (z ∷ []) f f (data_message x.line) (toward Up c.args.here) (sends (onward Up c.args.here (data_message p.line) ∷ []) (record p { termios = c.args.termios; line = [] }))
    (held-set s x c.args.termios c.clear.new.self held) kept (λ k. refl) (λ i. refl) made refl c.toward.ensures
    (ap (λ (l : List ℕ). record p { termios = c.args.termios; line = l }) c.clear.ensures.line) refl refl refl)
