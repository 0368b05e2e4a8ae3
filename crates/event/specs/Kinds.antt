-- Document 01, "Events and registers": the kinds by their names. Document 02 adds the clock (No. 1), the error (No. 5), the look and the commit (No. 7).
use Rattle.std.specs.Prelude.{ℕ}
use Rattle.event.specs.declared.kinds.Kind.{Kind}
use Rattle.event.specs.declared.kinds.Kind.TheVariants as named

-- "Kinds: 0 sample, 1 load, 2 store, 3 CSR read, 4 CSR write, 5 take, 6 open, 7 chain, 8 return, 9 set mask to the value."
abbrev pub sample : ℕ
sample = 0

abbrev pub load : ℕ
load = 1

abbrev pub store : ℕ
store = 2

abbrev pub csr_read : ℕ
csr_read = 3

abbrev pub csr_write : ℕ
csr_write = 4

abbrev pub take : ℕ
take = 5

abbrev pub open_handler : ℕ
open_handler = 6

abbrev pub chain : ℕ
chain = 7

abbrev pub return : ℕ
return = 8

abbrev pub set_mask : ℕ
set_mask = 9

-- "Kind 10 is one clock."
abbrev pub clock : ℕ
clock = 10

-- "Kind 11 counts one error."
abbrev pub error : ℕ
error = 11

-- "Kind 12 looks." "Kind 13 commits."
abbrev pub look : ℕ
look = 12

abbrev pub commit : ℕ
commit = 13

-- The number of each kind.
abbrev pub number_of_kind : Kind → ℕ
number_of_kind named.Sample = sample
number_of_kind named.Load = load
number_of_kind named.Store = store
number_of_kind named.CsrRead = csr_read
number_of_kind named.CsrWrite = csr_write
number_of_kind named.Take = take
number_of_kind named.Open = open_handler
number_of_kind named.Chain = chain
number_of_kind named.Return = return
number_of_kind named.SetMask = set_mask
number_of_kind named.Clock = clock
number_of_kind named.Error = error
number_of_kind named.Look = look
number_of_kind named.Commit = commit
