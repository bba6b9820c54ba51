-- A transaction and its answers end within 2 ^ 56, and their words lie at multiples of the word.
use Rattle.sb_packet.proofs.Places.{replies_end, reply_address_aligned, transaction_ends, words_aligned}
use Rattle.sb_packet.proofs.laws.transactions_are_placed.Goals as goal

pub returns-clause-end : goal.returns-clause-end
returns-clause-end c = λ t is. transaction_ends t is

pub returns-clause-reply_end : goal.returns-clause-reply_end
returns-clause-reply_end c = λ id i t low few is. replies_end id i t low few is

pub returns-clause-reply_aligned : goal.returns-clause-reply_aligned
returns-clause-reply_aligned c = λ id i size fits. reply_address_aligned id i size fits

pub returns-clause-words_aligned : goal.returns-clause-words_aligned
returns-clause-words_aligned c = λ address j size h. words_aligned address j size h
