-- Application data of service 6 and its form, by computation: each cause of refusal 5. The blocks of a dump or a check carry no octets; here those of a load carry three for each word.
use Rattle.std.specs.Prelude.{true, false, ◌≡◌, refl, List, [], ◌∷◌, ◌++◌, ℕ, Ok, Err}
use Rattle.laws.specs.First.{first_from}
use Rattle.octets.specs.Numbers.{octets16, octets32}
use Rattle.blocks.specs.Blocks.{block_at, blocks_from}
use Rattle.blocks.specs.Form.{block_right, head_right, block_fault, end_of, exact, form_of}

-- A block's start and its length in words.
abbrev pub header : ℕ → ℕ → List ℕ
header start words = octets32 start ++ octets16 words

-- Three blocks of one word each.
abbrev pub three : List ℕ
three = header 0x1000 1 ++ header 0x1050 1 ++ header 0x1090 1

pub three_headers : form_of 0 240 (1 ∷ 3 ∷ three) ≡ Ok tt
unfolding form_of block_fault exact block_right end_of blocks_from block_at first_from
three_headers = refl

pub words_of_three : form_of 3 240 (1 ∷ 1 ∷ (header 0x1000 2 ++ 1 ∷ 2 ∷ 3 ∷ 4 ∷ 5 ∷ 6 ∷ [])) ≡ Ok tt
unfolding form_of block_fault exact block_right end_of blocks_from block_at first_from
words_of_three = refl

pub one_too_long : form_of 0 240 (1 ∷ 1 ∷ header 0x1000 241) ≡ Err 1
unfolding form_of block_fault exact block_right end_of blocks_from block_at first_from
one_too_long = refl

pub length_of_0 : form_of 0 240 (1 ∷ 1 ∷ header 0x1000 0) ≡ Err 1
unfolding form_of block_fault exact block_right end_of blocks_from block_at first_from
length_of_0 = refl

pub second_cut_off : form_of 0 240 (1 ∷ 2 ∷ (header 0x1000 1 ++ 0 ∷ [])) ≡ Err 2
unfolding form_of block_fault exact block_right end_of blocks_from block_at first_from
second_cut_off = refl

pub words_cut_off : form_of 3 240 (1 ∷ 1 ∷ (header 0x1000 2 ++ 1 ∷ 2 ∷ 3 ∷ 4 ∷ 5 ∷ [])) ≡ Err 1
unfolding form_of block_fault exact block_right end_of blocks_from block_at first_from
words_cut_off = refl

pub one_octet_left_over : form_of 0 240 (1 ∷ 3 ∷ (three ++ 0 ∷ [])) ≡ Err 0
unfolding form_of block_fault exact block_right end_of blocks_from block_at first_from
one_octet_left_over = refl

pub one_octet : head_right (1 ∷ []) ≡ false
unfolding head_right
one_octet = refl

pub no_blocks : head_right (1 ∷ 0 ∷ []) ≡ false
unfolding head_right
no_blocks = refl

pub nine_blocks : head_right (1 ∷ 9 ∷ []) ≡ false
unfolding head_right
nine_blocks = refl

pub eight_blocks : head_right (1 ∷ 8 ∷ []) ≡ true
unfolding head_right
eight_blocks = refl
