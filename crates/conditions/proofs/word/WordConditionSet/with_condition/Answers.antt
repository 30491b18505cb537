use Rattle.std.proofs.Common.{refl, arith}
use Rattle.conditions.proofs.Words.{word_condition}
use Rattle.conditions.proofs.word.WordConditionSet.with_condition.Goals as goal

pub returns-in-0 : goal.returns-in-0
returns-in-0 c = (omega arith, word_condition 64 0xAAAA_AAAA_AAAA_AAAA 0 _ c.in-0.is refl)

pub returns-in-1 : goal.returns-in-1
returns-in-1 c = (omega arith, word_condition 64 0xCCCC_CCCC_CCCC_CCCC 1 _ c.in-1.is refl)

pub returns-in-2 : goal.returns-in-2
returns-in-2 c = (omega arith, word_condition 64 0xF0F0_F0F0_F0F0_F0F0 2 _ c.in-2.is refl)

pub returns-in-3 : goal.returns-in-3
returns-in-3 c = (omega arith, word_condition 64 0xFF00_FF00_FF00_FF00 3 _ c.in-3.is refl)

pub returns-in-4 : goal.returns-in-4
returns-in-4 c = (omega arith, word_condition 64 0xFFFF_0000_FFFF_0000 4 _ c.in-4.is refl)

pub returns-in-5 : goal.returns-in-5
returns-in-5 c = (omega arith, word_condition 64 0xFFFF_FFFF_0000_0000 5 _ c.in-5.is refl)
