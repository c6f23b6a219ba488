-- docs/CASES.md, the table: the letters of the commands.
use Rattle.std.specs.Prelude.{ℕ}

-- Those that set: the profile, the store, the counts, the time, the output buffer.
abbrev pub letter_p : ℕ
letter_p = 0x50

abbrev pub letter_s : ℕ
letter_s = 0x53

abbrev pub letter_k : ℕ
letter_k = 0x4B

abbrev pub letter_t : ℕ
letter_t = 0x54

abbrev pub letter_b : ℕ
letter_b = 0x42

-- Those that print: the terminal's answer, the output buffer, the store, the reader's and the writer's answer, the CRC, the CRC that goes on from a value, whether a profile is wider, and the answer of the reader of frames.
abbrev pub letter_x : ℕ
letter_x = 0x58

abbrev pub letter_o : ℕ
letter_o = 0x4F

abbrev pub letter_m : ℕ
letter_m = 0x4D

abbrev pub letter_r : ℕ
letter_r = 0x52

abbrev pub letter_w : ℕ
letter_w = 0x57

abbrev pub letter_c : ℕ
letter_c = 0x43

abbrev pub letter_d : ℕ
letter_d = 0x44

abbrev pub letter_v : ℕ
letter_v = 0x56

abbrev pub letter_f : ℕ
letter_f = 0x46
