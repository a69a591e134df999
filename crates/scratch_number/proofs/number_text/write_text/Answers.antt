use Rattle.scratch_number.specs.declared.number.Num.TheVariants.{Fixed, Inf, NegInf, Nan}
use Rattle.scratch_number.proofs.ReadBack.{reads_back, own_text}
use Rattle.scratch_number.proofs.number_text.write_text.Goals as goal

pub returns-in-Inf-clause-reads_back : goal.returns-in-Inf-clause-reads_back
returns-in-Inf-clause-reads_back c = rw c.in-Inf.is (reads_back Inf c.push_all.new.out tt (rw c.clear.ensures at c.push_all.ensures))

pub returns-in-Inf-clause-own : goal.returns-in-Inf-clause-own
returns-in-Inf-clause-own c = λ b small same. rw c.in-Inf.is (own_text Inf b c.push_all.new.out tt (rw c.clear.ensures at c.push_all.ensures) small same)

pub returns-in-NegInf-clause-reads_back : goal.returns-in-NegInf-clause-reads_back
returns-in-NegInf-clause-reads_back c = rw c.in-NegInf.is (reads_back NegInf c.push_all-in-NegInf.new.out tt (rw c.clear.ensures at c.push_all-in-NegInf.ensures))

pub returns-in-NegInf-clause-own : goal.returns-in-NegInf-clause-own
returns-in-NegInf-clause-own c = λ b small same. rw c.in-NegInf.is (own_text NegInf b c.push_all-in-NegInf.new.out tt (rw c.clear.ensures at c.push_all-in-NegInf.ensures) small same)

pub returns-in-Nan-clause-reads_back : goal.returns-in-Nan-clause-reads_back
returns-in-Nan-clause-reads_back c = rw c.in-Nan.is (reads_back Nan c.push_all-in-Nan.new.out tt (rw c.clear.ensures at c.push_all-in-Nan.ensures))

pub returns-in-Nan-clause-own : goal.returns-in-Nan-clause-own
returns-in-Nan-clause-own c = λ b small same. rw c.in-Nan.is (own_text Nan b c.push_all-in-Nan.new.out tt (rw c.clear.ensures at c.push_all-in-Nan.ensures) small same)

pub returns-in-Fixed-clause-reads_back : goal.returns-in-Fixed-clause-reads_back
returns-in-Fixed-clause-reads_back c = rw c.in-Fixed.is (reads_back (Fixed c.in-Fixed.x) c.push_raw.new.out c.push_raw.ensures.small c.push_raw.ensures.text)

pub returns-in-Fixed-clause-own : goal.returns-in-Fixed-clause-own
returns-in-Fixed-clause-own c = λ b small same.
    rw c.in-Fixed.is (own_text (Fixed c.in-Fixed.x) b c.push_raw.new.out c.push_raw.ensures.small c.push_raw.ensures.text small same)
