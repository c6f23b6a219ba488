-- For proofs by computation: one name that opens the definitions of the crates below.
use mathlib.Core.Bool.{xor}
use Rattle.laws.specs.Each.{every, among}
use Rattle.laws.specs.First.{first_from}
use Rattle.laws.specs.Fold.{answers, reached, joined}
use Rattle.octets.specs.Copy.{laid, between}
use Rattle.crc.specs.Register.{take_bit, take_bits, crc_from}
use Rattle.iso.specs.Checksum.{added, sums_of, iso_of}
use Rattle.checks.specs.Table.{answer}
use Rattle.tc.specs.Layout.{error_control, fields_of, application_of, head_of, body_of, packet_of}
use Rattle.heading.specs.Heading.{length_right, first_fault, header_fault}
use Rattle.reader.specs.Reader.{control_right, reader_rows}
use Rattle.map.specs.Place.{word_octets, find_in, inside, octets_of, octet_at, stored_at}
use Rattle.map.specs.Sound.{store_allowed, area_sound, apart, pair_sound, every_pair, sound}
use Rattle.wider.specs.Wider.{keeps_rights, keeps_words, covers, covered, keeps_flags, wider}
use Rattle.blocks.specs.Blocks.{block_at, blocks_from, words_of}
use Rattle.blocks.specs.Form.{head_right, block_right, block_fault, end_of, exact, form_of}
use Rattle.counts.specs.Counts.{category_of, count_in, advanced, in_range}
use Rattle.tm.specs.Frame.{head_of as frame_head_of, frame_of, stamped, frames_of, counts_after}
use Rattle.requests.specs.Request.{serves, memory_asked, asked_for, outside_of}
use Rattle.decide.specs.Table.{caller_right, caller_rows, rows, decided}
use Rattle.serving.specs.Services.{area_rows, memory_rows, connection_rows}
use Rattle.addressing.specs.Requested.{request_rows}
use Rattle.memory.specs.Memory.{entries_of, loaded}
use Rattle.terminal.specs.Outcome.{reports_for, reports_due, store_after, frames_due, outcome_of, out_after, store_on}
use Rattle.characters.specs.Digits.{value_of, digit_of, text_of, all_digits_of, octets_in}
use Rattle.lines.specs.Lines.{lines_of}
use Rattle.lines.specs.Feed.{output_of}
use Rattle.packetline.specs.Packet.{is_packet, closing_of}
use Rattle.hexline.specs.Line.{packet_answer, packet_after, line_answer, line_after}

-- On an `unfolding` line it stands for all that its own line names.
unfoldable pub all : Unit {0}
unfolding xor every among first_from joined laid between take_bit take_bits crc_from reached added sums_of iso_of answer error_control fields_of application_of head_of body_of packet_of length_right control_right first_fault header_fault reader_rows word_octets find_in inside octets_of octet_at stored_at store_allowed area_sound apart pair_sound every_pair sound keeps_rights keeps_words covers covered keeps_flags wider block_at blocks_from words_of head_right block_right block_fault end_of exact form_of category_of count_in advanced in_range frame_head_of frame_of stamped frames_of counts_after serves memory_asked asked_for outside_of caller_right caller_rows area_rows memory_rows connection_rows request_rows rows decided entries_of loaded reports_for reports_due store_after frames_due outcome_of out_after store_on answers value_of digit_of text_of lines_of output_of all_digits_of octets_in is_packet closing_of packet_answer packet_after line_answer line_after
all = tt
