use Rattle.pn_spec.proofs.want.read_range.Goals as goal

pub returns-in-Err-BadByte : goal.returns-in-Err-BadByte
returns-in-Err-BadByte c = c.in-Err-BadByte.ensures.none (λ e. cc (e, c.in-Err-BadByte.field-0-is))

pub returns-in-Err-NumberTooLarge : goal.returns-in-Err-NumberTooLarge
returns-in-Err-NumberTooLarge c = c.in-Err-NumberTooLarge.ensures.none (λ e. cc (e, c.in-Err-NumberTooLarge.field-0-is))

pub returns-in-Err-TooMany : goal.returns-in-Err-TooMany
returns-in-Err-TooMany c = c.in-Err-TooMany.ensures.none (λ e. cc (e, c.in-Err-TooMany.field-0-is))
