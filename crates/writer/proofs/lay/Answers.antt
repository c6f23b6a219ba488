-- `writer::lay` meets its contract: head and application data are the body, and it and, behind it, the error control over what the buffer then holds are the packet.
use Rattle.std.proofs.Common.{◌≡◌, ◌∙◌, ◌+◌, ◌≤◌, length, take, refl, ap, sym, arith, rules, List, ℕ}
use Rattle.octets.specs.Copy.{laid}
use Rattle.octets.specs.Numbers.{octets16}
use Rattle.octets.proofs.Laid.{laid-append}
use Rattle.tc.specs.Layout.{head_size, head_of, body_of}
use Rattle.tc.proofs.Laying.{control_by, laid_packet}
use Rattle.writer.specs.Writer.{fields_for}
use Rattle.writer.proofs.lay.Goals as goal

pub returns : goal.returns
unfolding body_of head_of
returns c =
    let s = c.args in
    let f = fields_for s.order in
    let application : List ℕ = s.application.now in
    let buffer : List ℕ = c.put-end-2.new.buffer in
    let end : ℕ = c.put-end-2.result + 10 in
    let room : length application + 10 ≤ length s.buffer.now = omega arith in
    let ends : end ≡ length application + head_size = ap (λ (n : ℕ). n + 10) c.put-end-2.ensures.0 in
    let body : buffer ≡ laid s.buffer.now 0 (body_of f application) =
    c.put-end-2.ensures.1
    ∙ ap (λ (d : List ℕ). laid d 10 application) (c.put-end.ensures.1 ∙ ap (λ (h : List ℕ). laid s.buffer.now 0 h) c.head-first.ensures)
    ∙ laid-append s.buffer.now 0 (head_of f (length application)) application in
    let control : c.to_be_bytes-control.result ≡ octets16 c.error_control.result = search rules in
    laid_packet s.buffer.now f application buffer c.put.new.buffer end c.error_control.result room ends body
    (c.error_control.ensures ∙ sym (control_by f s.order.method (take end buffer) refl))
    (c.put.ensures.1 ∙ ap (λ (o : List ℕ). laid buffer end o) control)
