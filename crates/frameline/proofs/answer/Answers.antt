-- `frameline::answer` meets its contract: a line that is no packet line is told that it is bad, and any other what the frame says that its octets are.
use Rattle.std.proofs.Common.{◌≡◌, refl, sym, ap, ◌∙◌, List, ℕ, true}
use Rattle.characters.specs.Digits.{octets_in}
use Rattle.saying.proofs.Saying.{says_as}
use Rattle.packetline.specs.Packet.{is_packet}
use Rattle.hexline.proofs.Serving.{line_octets}
use Rattle.frametext.specs.Text.{frame_text}
use Rattle.frameline.proofs.Lines.{says_bad, says_frame}
use Rattle.frameline.proofs.answer.Goals as goal

pub returns-then-not-is_packet : goal.returns-then-not-is_packet
returns-then-not-is_packet c = says_as (sym (says_bad c.args.line.now (sym c.if-not-is_packet.ensures))) c.put_bad.ensures

pub returns : goal.returns
returns c =
    let line : List ℕ = c.args.line.now in
    let good : is_packet line ≡ true = sym c.if-not-is_packet.ensures in
    let octets : c.front-octets.result.now ≡ octets_in line = c.front-octets.ensures ∙ line_octets line _ _ good refl c.decode.ensures in
    says_as (ap frame_text octets ∙ sym (says_frame line good)) c.put_frame.ensures
