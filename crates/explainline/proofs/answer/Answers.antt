-- `explainline::answer` meets its contract: a line that is no packet line is told that it is bad, and any other what is said of the packet that its octets are.
use Rattle.std.proofs.Common.{◌≡◌, refl, sym, ap, ◌∙◌, List, ℕ, true}
use Rattle.characters.specs.Digits.{octets_in}
use Rattle.saying.proofs.Saying.{says_as}
use Rattle.packetline.specs.Packet.{is_packet}
use Rattle.hexline.proofs.Serving.{line_octets}
use Rattle.explaining.specs.Explanation.{explanation_of}
use Rattle.explainline.specs.Line.{explanation_text}
use Rattle.explainline.proofs.Lines.{explain_bad, explain_packet}
use Rattle.explainline.proofs.answer.Goals as goal

pub returns-then-not-is_packet : goal.returns-then-not-is_packet
returns-then-not-is_packet c = says_as (sym (explain_bad c.args.profile c.args.line.now (sym c.if-not-is_packet.ensures))) c.put_bad.ensures

pub returns : goal.returns
returns c =
    let line : List ℕ = c.args.line.now in
    let good : is_packet line ≡ true = sym c.if-not-is_packet.ensures in
    let octets : c.front-octets.result.now ≡ octets_in line = c.front-octets.ensures ∙ line_octets line _ _ good refl c.decode.ensures in
    let said : c.explain.result ≡ explanation_of c.args.profile (octets_in line) = c.explain.ensures ∙ ap (explanation_of c.args.profile) octets in
    says_as (ap explanation_text said ∙ sym (explain_packet c.args.profile line good)) c.put_explanation.ensures
